-- Names of a map that are whole numbers.
use Prim.Native.String.{String as Literal}
use Rattle.std.specs.Prelude.{ℕ, ◌==◌, ◌&&◌, ◌||◌, Bool, not, List, length, get_or, is_some, nat_lt, Option}
use Rattle.garde.specs.Fields.{Fault, asks}
use Rattle.garde_form.specs.Spelling.{TextNumbers}

-- whether a text begins as JSON writes whole numbers: with no plus, and with no zero in front of another digit or behind a minus
abbrev pub is_plain : List ℕ → Bool
is_plain text = nat_lt (length text) 2 || not (get_or text 0 0 == 43 || get_or text 0 0 == 48 || (get_or text 0 0 == 45 && get_or text 1 0 == 48))

-- that a text is a number of this type, as the name of a member writes it
abbrev pub whole_key : {A : Type 0} → Literal → TextNumbers A → List ℕ → Option Fault
whole_key message numbers text = asks message (is_plain text && is_some (numbers.number text))
