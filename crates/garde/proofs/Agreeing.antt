-- The code does what is stated, shown part by part: the prover rejects a difference at the line of its part.
use Rattle.std.proofs.Common.{◌≡◌, ℕ, List, Result}
use Rattle.garde_i18n.specs.Datum.{Datum}
use Rattle.garde_report.specs.Report.{Entry}
use Rattle.garde_report.specs.Trace.{Trace}
use Rattle.garde.specs.Visits.{Visits, Visited, ◌and◌}

-- the first says what the second does
pub record Agrees (stated coded : Visits) : Type 1 where
  pub same : coded ≡ stated

-- one part
pub part : {a b : Visits} → b ≡ a → Agrees a b
part same = record { same = same }

-- one part, and those after it
infixr 20 ◌also◌
pub ◌also◌ : {a b c d : Visits} → Agrees a b → Agrees c d → Agrees (a and c) (b and d)
◌also◌ f s = record { same = λ i. f.same i and s.same i }

-- what was walked by the code was walked as it is stated
pub as_stated : {stated coded : Visits} {text : Datum → List ℕ} {E : Type 0} {before after : Trace} {old new : List Entry} {result : Result Unit E} → Visited coded text before after old new result → Agrees stated coded → Visited stated text before after old new result
as_stated told agrees = rw agrees.same at told
