-- Lemmas on values that may be null.
use Rattle.std.proofs.Common.{◌≡◌, ℕ, Bool, true, List, Ok, sym, subst}
use Rattle.garde_i18n.specs.Datum.{Datum}
use Rattle.garde_report.specs.Report.{Entry}
use Rattle.garde_report.specs.Trace.{Trace}
use Rattle.garde.specs.Visits.{Visits, Visited}
use Rattle.garde.proofs.Author.{visited_none}
use Rattle.garde_schema.specs.Nulls.{nullable_visits}

module _ {text : Datum → List ℕ} {E : Type 0} where
  -- nothing is asked of null
  pub nullable_null : (visits : Visits) (null : Bool) {walk : Trace} {old : List Entry} → null ≡ true → Visited {E = E} (nullable_visits visits null) text walk walk old old (Ok tt)
  nullable_null visits null {walk} {old} is = subst (λ z. Visited {E = E} (nullable_visits visits z) text walk walk old old (Ok tt)) (sym is) visited_none
