-- Whole numbers, as their types hold them.
use Rattle.std.specs.Prelude.{ℕ, ℤ, List, Bool, false, nat_lt, int_lt, Option, Some, None, option_map, option_and_then, unwrap_or, if◌then◌else◌}
use Rattle.json.specs.Json.{Json}
use Rattle.json.specs.Find.{as_number}
use Rattle.garde_tape.specs.Number.{unsigned_of, signed_of, has_minus, is_whole_text}
use Rattle.garde_tape.specs.Look.{kind_of}
use Rattle.garde.specs.Fields.{Fault, own}
use Rattle.garde.specs.Visits.{Visits, found}
use Rattle.garde_schema.specs.Forms.{FormTexts}
use Rattle.garde_schema.specs.declared.fault.FormFault.TheVariants.{Wrong, OutOfRange}
use Rattle.garde_schema.specs.declared.fault.Wanted.TheVariants as wanted
use Rattle.garde_schema.specs.declared.fault.Integer.{Integer}

-- whether a value is a whole number, of any size
abbrev pub is_whole : Json → Bool
is_whole j = unwrap_or (option_map is_whole_text (as_number j)) false

-- the whole number without a sign, or with one, that a value spells in at most 64 bits
abbrev pub unsigned_value : Json → Option ℕ
unsigned_value j = option_and_then (unsigned_of 64) (as_number j)

abbrev pub signed_value : Json → Option ℤ
signed_value j = option_and_then (signed_of 64) (as_number j)

-- the number, where it is at most the first
abbrev pub up_to : ℕ → Option ℕ → Option ℕ
up_to most None = None
up_to most (Some n) = if nat_lt most n then None else Some n

-- the number, where it is at least the first and at most the second
abbrev pub between : ℤ → ℤ → Option ℤ → Option ℤ
between least most None = None
between least most (Some n) = if int_lt n least then None else (if int_lt most n then None else Some n)

-- whether a value is a number behind a minus
abbrev pub is_negative : Json → Bool
is_negative j = unwrap_or (option_map has_minus (as_number j)) false

-- the fault of a number that its type does not hold: of a bound of the rules, or the message of the type
abbrev pub beyond_fault : Option Fault → List ℕ → Fault
beyond_fault (Some fault) message = fault
beyond_fault None message = own message

-- what is wrong with a value that is no number of this type, where the rules have this fault of a bound at the number nearest to it
abbrev pub other_visits : FormTexts → Integer → Option Fault → Json → Visits
other_visits texts integer bound j = found (Some (if is_whole j then beyond_fault bound (texts (OutOfRange integer)) else own (texts (Wrong wanted.Whole (kind_of j)))))

-- what is asked of a number of the type; this of another value
abbrev pub number_visits : {A : Type 0} → Visits → (A → Visits) → Option A → Visits
number_visits other each (Some n) = each n
number_visits other each None = other
