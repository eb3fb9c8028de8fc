use Rattle.std.proofs.Common.{List, Result, length}
use Rattle.std.specs.declared.alloc.AllocError.{AllocError}
use Rattle.garde_report.specs.Report.{Entry}
use Rattle.garde_report.specs.Trace.{Trace}
use Rattle.garde.specs.Visits.{Visited}
use Rattle.garde_schema.specs.Members.{unknown}
use Rattle.garde_schema.proofs.closed.check_names.Given as goal

-- a visit of the members that are left makes a visit of all
abbrev pub invariant-loop-name : goal.invariant-loop-name
invariant-loop-name g l =
    (after : Trace) (new : List Entry) (answer : Result (Unit {0}) AllocError)
    → Visited (unknown (λ name. g.M.Members.names l.named name) (g.H.FormI18n.form_text l.h) l.left) (g.H.I18n.text l.h) l.trail after l.report new answer
    → Visited (unknown (λ name. g.M.Members.names l.named name) (g.H.FormI18n.form_text l.h) l.initial.left) (g.H.I18n.text l.h) l.initial.trail after l.initial.report new answer

abbrev pub decreases-loop-name : goal.decreases-loop-name
decreases-loop-name g l = length l.left
