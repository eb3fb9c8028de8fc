-- What tells a value of one form from one of another.
use Rattle.std.specs.Prelude.{ℕ, List, Bool, true, false, ◌&&◌, ◌||◌, not, Option, Some, None, option_map, is_some, unwrap_or}
use Rattle.json.specs.Json.{Json}
use Rattle.json.specs.Find.{as_array, as_bool, as_number, as_object, as_str, get, is_null}
use Rattle.garde_tape.specs.Number.{is_whole_text}
use Rattle.garde_tape.specs.declared.kind.Kind.{Kind}
use Rattle.garde_tape.specs.declared.kind.Kind.TheVariants.{Text, Number, Boolean, Null, List as list, Object}
use Rattle.garde_schema.specs.declared.either.Either.{Either}
use Rattle.garde_schema.specs.declared.either.Either.TheVariants.{Left, Right}

-- whether a value is of this kind
abbrev pub is_kind : Kind → Json → Bool
is_kind Text j = is_some (as_str j)
is_kind Number j = is_some (as_number j)
is_kind Boolean j = is_some (as_bool j)
is_kind Null j = is_null j
is_kind list j = is_some (as_array j)
is_kind Object j = is_some (as_object j)

-- whether it is a whole number, of any size
abbrev pub is_whole_number : Json → Bool
is_whole_number j = unwrap_or (option_map is_whole_text (as_number j)) false

-- whether this holds of a value that is there
abbrev pub holds_some : (Json → Bool) → Option Json → Bool
holds_some test None = false
holds_some test (Some v) = test v

-- whether it is an object that has a member of this name, of which the last one is such a value
abbrev pub has_with : List ℕ → (Json → Bool) → Json → Bool
has_with name test j = holds_some test (get name j)

-- whether it is an object that has a member of this name
abbrev pub has : List ℕ → Json → Bool
has name j = is_some (get name j)

-- the first of two forms where the test holds, and else the second
abbrev pub test_side : Bool → Either (Unit {0}) (Unit {0})
test_side true = Left tt
test_side false = Right tt
