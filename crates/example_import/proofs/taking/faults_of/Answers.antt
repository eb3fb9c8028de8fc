use Rattle.std.proofs.Common.{false, sym, subst, ◌∙◌}
use Rattle.example_import.specs.Import.{IsReport}
use Rattle.example_import.proofs.Faults.{quiet, told, some}
use Rattle.example_import.proofs.taking.faults_of.Goals as goal

pub returns-in-Ok-clause-report : goal.returns-in-Ok-clause-report
returns-in-Ok-clause-report g c = quiet (g.H.I18n.text c.args.h.now) c.args.row.now c.in_ok-trail.trail c.validate_on.new.trail c.args.index c.new.result c.new.ensures c.in-Ok.ensures.on

pub returns-in-Err-Report-clause-report : goal.returns-in-Err-Report-clause-report
returns-in-Err-Report-clause-report g c =
    subst (IsReport (g.H.I18n.text c.args.h.now) c.args.index c.args.row.now false) (sym c.in-Err-Report.report-is)
    (told (g.H.I18n.text c.args.h.now) c.args.row.now c.in_ok-trail.trail c.validate_on.new.trail c.args.index c.in-Err-Report.report c.in_ok-trail.ensures (rw c.in-Err-Report.field-0-is at c.in-Err-Report.ensures.on))

pub returns-in-Err-Report-clause-known : goal.returns-in-Err-Report-clause-known
returns-in-Err-Report-clause-known g c empty =
    absurd (some (g.H.I18n.text c.args.h.now) c.args.row.now c.in_ok-trail.trail c.validate_on.new.trail c.in-Err-Report.report (rw c.in-Err-Report.field-0-is at c.in-Err-Report.ensures.on) (sym c.in-Err-Report.report-is ∙ empty))
