use Rattle.std.proofs.Common.{List, Result, drop}
use Rattle.std.specs.declared.alloc.AllocError.{AllocError}
use Rattle.garde_report.specs.Report.{Entry}
use Rattle.garde_report.specs.Trace.{Trace}
use Rattle.garde.specs.Visits.{Visited}
use Rattle.garde_rows.specs.Rows.{each_known}
use Rattle.garde_rows.proofs.names.check_names.Given as goal

-- a visit of the columns that are left makes a visit of all
abbrev pub invariant-loop-name : goal.invariant-loop-name
invariant-loop-name g l =
    (after : Trace) (new : List Entry) (answer : Result (Unit {0}) AllocError)
    → Visited (each_known (drop l.name-index l.names) (g.H.FormI18n.form_text l.h) l.header) (g.H.I18n.text l.h) l.trail after l.report new answer
    → Visited (each_known l.names (g.H.FormI18n.form_text l.h) l.header) (g.H.I18n.text l.h) l.initial.trail after l.initial.report new answer
