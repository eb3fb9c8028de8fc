use Rattle.std.proofs.Common.{sym, subst, ◌∙◌}
use Rattle.example_import.specs.Import.{IsReport}
use Rattle.example_import.proofs.Faults.{with_code}
use Rattle.example_import.proofs.taking.report_of.Goals as goal
use Rattle.example_import.proofs.taking.report_of.Goals.{then-is_stored+in_ok-add_code_fault, else-is_stored}

pub returns-clause-report : goal.returns-clause-report
returns-clause-report g c = elim c.if-is_stored.branch [
  | then-is_stored+in_ok-add_code_fault w ↦
      subst (λ b. IsReport (g.H.I18n.text c.args.h.now) c.args.index c.args.row.now b c.if-is_stored.report) (sym w.if-is_stored.true)
      (with_code (g.H.I18n.text c.args.h.now) c.args.row.now c.args.index c.in_ok-report.report c.if-is_stored.report c.in_ok-report.ensures.report (w.report-is ∙ w.in_ok-add_code_fault.ensures))
  | else-is_stored w ↦
      subst (λ b. IsReport (g.H.I18n.text c.args.h.now) c.args.index c.args.row.now b c.if-is_stored.report) (sym w.if-is_stored.false)
      (subst (IsReport (g.H.I18n.text c.args.h.now) c.args.index c.args.row.now _) (sym w.report-is) c.in_ok-report.ensures.report)
]
