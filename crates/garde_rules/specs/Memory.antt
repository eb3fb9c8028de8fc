-- The result of a rule that allocates to find out whether it holds.
use Rattle.std.specs.Prelude.{◌≡◌, ⊤, ℕ, List, Option, Some, None, Result, Ok, Err, IsSomeAnd}
use Rattle.garde_i18n.specs.Datum.{Datum}
use Rattle.garde_engines.specs.Applies.{Fault, fault_text}
use Rattle.garde_report.specs.declared.error.rule_error.RuleError.{RuleError}
use Rattle.garde_report.specs.declared.error.rule_error.RuleError.TheVariants as errors

-- The result of a rule that found this: Ok only if it found nothing, and a fault only with the text
-- of what it found. `Memory` says nothing about the value.
abbrev pub AppliesInMemory : Option Fault → (Datum → List ℕ) → Result (Unit {0}) RuleError → Type 0
AppliesInMemory found text (Ok _) = found ≡ None
AppliesInMemory found text (Err (errors.Fault message)) =
    IsSomeAnd found (λ fault. message ≡ fault_text text fault)
AppliesInMemory found text (Err errors.Memory) = ⊤

-- The same for a rule of which it is not always known what it finds: where it is not known,
-- `Memory` is the only result.
abbrev pub AppliesIfKnown : Option (Option Fault) → (Datum → List ℕ) → Result (Unit {0}) RuleError → Type 0
AppliesIfKnown known text (Ok _) = known ≡ Some None
AppliesIfKnown known text (Err (errors.Fault message)) =
    IsSomeAnd known (λ found. IsSomeAnd found (λ fault. message ≡ fault_text text fault))
AppliesIfKnown known text (Err errors.Memory) = ⊤
