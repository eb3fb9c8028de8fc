-- The members of an object, by their names.
use Rattle.std.specs.Prelude.{ℕ, List, [], ◌∷◌, Bool, not, Option, Some, None, option_map}
use Rattle.json.specs.Json as json
use Rattle.json.specs.Json.{Json}
use Rattle.json.specs.Find.{as_object}
use Rattle.garde_report.specs.Part.{Part, key_part}
use Rattle.garde_tape.specs.Reading.{member_list}
use Rattle.garde_tape.specs.declared.found.Found.{Found}
use Rattle.garde_tape.specs.declared.found.Found.TheVariants.{Missing, Once, Repeated}
use Rattle.garde.specs.Visits.{Visits, none, ◌and◌, under, when}
use Rattle.garde_schema.specs.declared.fault.FormFault.TheVariants as faults
use Rattle.garde_schema.specs.Forms.{FormTexts, refused}

-- the member that is there once
abbrev pub once : Found → Option Json
once Missing = None
once (Once v) = Some v
once Repeated = None

-- what is asked of a member that must be there, under its name
abbrev pub member_visits : FormTexts → (Json → Visits) → Found → Visits
member_visits texts each Missing = refused (texts faults.Missing)
member_visits texts each (Once v) = each v
member_visits texts each Repeated = refused (texts faults.Repeated)

-- what is asked of a member that may be missing
abbrev pub optional_visits : Part → FormTexts → (Json → Visits) → Found → Visits
optional_visits name texts each Missing = none
optional_visits name texts each (Once v) = under name (each v)
optional_visits name texts each Repeated = under name (refused (texts faults.Repeated))

-- the value of a member that may be missing
abbrev pub optional_value : {A : Type 0} → (Json → Option A) → Found → Option (Option A)
optional_value value Missing = Some None
optional_value value (Once v) = option_map (λ out. Some out) (value v)
optional_value value Repeated = None

abbrev pub members_among : Option json.Members → List (List ℕ × Json)
members_among (Some ms) = member_list ms
members_among None = []

-- the members of an object, in the order of the tree; none of another value
abbrev pub members_in : Json → List (List ℕ × Json)
members_in j = members_among (as_object j)

-- a fault under a name that is not named
abbrev pub unless_named : (List ℕ → Bool) → FormTexts → List ℕ → Visits
unless_named names texts name = when (not (names name)) (under (key_part name) (refused (texts faults.Unknown)))

-- the same of each member, in their order
unfoldable pub unknown : (List ℕ → Bool) → FormTexts → List (List ℕ × Json) → Visits
unknown names texts [] = none
unknown names texts (m ∷ ms) = unless_named names texts m.0 and unknown names texts ms
