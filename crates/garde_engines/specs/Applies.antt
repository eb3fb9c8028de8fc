-- What a rule finds in a value, and what it returns.
use Rattle.std.specs.Prelude.{◌≡◌, ℕ, List, Option, None, Result, Ok, Err, IsSome, IsSomeAnd}
use Rattle.garde_i18n.specs.Datum.{Datum}
use Rattle.garde_report.specs.declared.error.rule_error.RuleError.{RuleError}
use Rattle.garde_report.specs.declared.error.rule_error.RuleError.TheVariants as errors

-- what was found: the datum of a rule, which a handler gives its text, or a message of its own
pub data Fault : Type 0 where
  rule : Datum → Fault
  own : List ℕ → Fault

-- the text of a fault, where the texts of data are these
abbrev pub fault_text : (Datum → List ℕ) → Fault → List ℕ
fault_text text (rule datum) = text datum
fault_text text (own message) = message

-- The result of a rule that found this: Ok only if it found nothing, a fault only with the text of
-- what it found, and `Memory` only if it found something.
abbrev pub Applies : Option Fault → (Datum → List ℕ) → Result (Unit {0}) RuleError → Type 0
Applies found text (Ok _) = found ≡ None
Applies found text (Err (errors.Fault message)) = IsSomeAnd found (λ fault. message ≡ fault_text text fault)
Applies found text (Err errors.Memory) = IsSome found
