-- Values that may be null, and members that may be null or missing.
use Rattle.std.specs.Prelude.{◌≡◌, Bool, true, false, Option, Some, None, option_map, unwrap_or, ◌⊎◌}
use Rattle.json.specs.Json.{Json}
use Rattle.json.specs.Find.{is_null}
use Rattle.garde.specs.Visits.{Visits, none}
use Rattle.garde_tape.specs.declared.found.Found.{Found}
use Rattle.garde_tape.specs.declared.found.Found.TheVariants.{Missing, Once, Repeated}

-- what is asked of a value that may be null, by whether it is
abbrev pub nullable_visits : Visits → Bool → Visits
nullable_visits visits true = none
nullable_visits visits false = visits

-- the value of one that may be null, by whether it is
abbrev pub nullable_value : {A : Type 0} → Option A → Bool → Option (Option A)
nullable_value value true = Some None
nullable_value value false = option_map (λ out. Some out) value

-- a member of this value, by whether it is null
abbrev pub once_unless_null : Json → Bool → Found
once_unless_null v true = Missing
once_unless_null v false = Once v

-- what was found, where a member that is null counts as missing
abbrev pub unless_null : Found → Found
unless_null Missing = Missing
unless_null (Once v) = once_unless_null v (is_null v)
unless_null Repeated = Repeated

-- the value of a member, and this one where it is missing
abbrev pub default_value : {A : Type 0} → A → Option (Option A) → Option A
default_value default value = option_map (λ out. unwrap_or out default) value

-- the value is this one, or this is asked of it
abbrev pub KeepsOrIs : {A : Type 0} → A → (A → Type 0) → A → Type 0
KeepsOrIs default keeps out = (out ≡ default) ⊎ keeps out
