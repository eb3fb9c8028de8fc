-- The places of the tokens of a text.
use Rattle.std.specs.Prelude.{ℕ, List, [], ◌∷◌, Bool, true, false}
use Rattle.garde_tape.specs.declared.place.Place.{Place}
use Rattle.garde_places.specs.declared.lex.Mode.{Mode}
use Rattle.garde_tape.specs.Place.{past}
use Rattle.garde_places.specs.Lex.{begins_at, mode_after}

abbrev pub put_if : Bool → Place → List Place → List Place
put_if true p ps = p ∷ ps
put_if false p ps = ps

-- the places of the tokens, from a byte on that stands here in this mode
abbrev pub spots : Mode → Place → List ℕ → List Place
spots m here [] = []
spots m here (x ∷ xs) = put_if (begins_at m x) here (spots (mode_after m x) (past here x) xs)
