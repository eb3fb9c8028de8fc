-- Where a walk over members finds a name.
use Rattle.std.specs.Prelude.{◌≡◌, ℕ, List, None}
use Rattle.json.specs.Json.{Json}
use Rattle.json.specs.declared.tape.Node.{Node}
use Rattle.garde_tape.specs.Look.{answer_from}
use Rattle.garde_tape.specs.Reading.{json_of, HasTree}
use Rattle.garde_tape.specs.Walk.{tokens_at}
use Rattle.garde_tape.specs.declared.found.Found.TheVariants as found
use Rattle.garde_tape.specs.Texts.{field_json}
use Rattle.garde_tape.specs.declared.found.Found.{Found}
use Rattle.garde_tape.specs.declared.field.FieldSpot.{FieldSpot}
use Rattle.garde_tape.specs.declared.field.FieldSpot.TheVariants as field_spot
use Rattle.garde_tape.specs.declared.node.Spot.{Spot}
use Rattle.garde_tape.specs.declared.node.Spot.TheVariants.{Nowhere, Once, Repeated}

-- where the name stands among these members
abbrev pub IsSpot : List Node → List (List ℕ × Json) → List ℕ → Spot → Type 0
IsSpot nodes members name Nowhere = answer_from name None members ≡ found.Missing
IsSpot nodes members name (Once at) = HasTree (tokens_at nodes at) × (answer_from name None members ≡ found.Once (json_of (tokens_at nodes at)))
IsSpot nodes members name Repeated = answer_from name None members ≡ found.Repeated

-- what is found of a name that stands there among fields
abbrev pub spot_found : FieldSpot → Found
spot_found field_spot.Nowhere = found.Missing
spot_found (field_spot.Once value) = found.Once (field_json value.now)
spot_found field_spot.Repeated = found.Repeated
