-- Rules on the whole value of a form, or of several members.
use Rattle.std.specs.Prelude.{Option, Some, None}
use Rattle.garde.specs.Visits.{Visits, none}

-- what the rules find in a value, where there is one
abbrev pub rules_on_value : {A : Type 0} → (A → Visits) → Option A → Visits
rules_on_value asks (Some v) = asks v
rules_on_value asks None = none
