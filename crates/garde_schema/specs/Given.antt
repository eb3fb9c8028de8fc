-- A member that is not read.
use Rattle.std.specs.Prelude.{Some, false}
use Rattle.garde.specs.Visits.{none}
use Rattle.garde_schema.specs.Spelling.{Members}

-- a member that is not read, whatever the object has: its value is this one
abbrev pub given : {A : Type 0} → A → Members A
given value = record {
  value = λ _. Some value;
  visits = λ _ _. none;
  names = λ _. false;
}
