use Rattle.std.proofs.Common.{List, Result, length}
use Rattle.std.specs.declared.alloc.AllocError.{AllocError}
use Rattle.garde_report.specs.Report.{Entry}
use Rattle.garde_report.specs.Trace.{Trace}
use Rattle.garde.specs.Visits.{Visited}
use Rattle.garde_described.specs.Faults.{in_turn, required_asks}
use Rattle.garde_described.proofs.required.check_names.Given as goal

-- a visit of the names that are left makes a visit of all
abbrev pub invariant-loop-name : goal.invariant-loop-name
invariant-loop-name g l =
    (after : Trace) (new : List Entry) (answer : Result (Unit {0}) AllocError)
    → Visited (in_turn (required_asks (g.H.FormI18n.form_text l.h) l.tree) l.left) (g.H.I18n.text l.h) l.trail after l.report new answer
    → Visited (in_turn (required_asks (g.H.FormI18n.form_text l.h) l.tree) l.initial.left) (g.H.I18n.text l.h) l.initial.trail after l.initial.report new answer

abbrev pub decreases-loop-name : goal.decreases-loop-name
decreases-loop-name g l = length l.left
