use Rattle.std.proofs.Common.{List, Result, drop, map}
use Rattle.std.specs.declared.alloc.AllocError.{AllocError}
use Rattle.garde_report.specs.Report.{Entry}
use Rattle.garde_report.specs.Trace.{Trace}
use Rattle.garde.specs.Visits.{Visited}
use Rattle.garde_catalog.specs.Lines.{asked}
use Rattle.garde_catalog.specs.Messages.{message_of}
use Rattle.garde_catalog.proofs.table_texts.check_lines.Given as goal

-- a visit of the messages that are left makes a visit of all
abbrev pub invariant-loop-message : goal.invariant-loop-message
invariant-loop-message g l =
    (after : Trace) (new : List Entry) (answer : Result (Unit {0}) AllocError)
    → Visited (asked l.may_lack (g.H.FormI18n.form_text l.h) l.object (map message_of (drop l.message-index l.messages))) (g.H.I18n.text l.h) l.trail after l.report new answer
    → Visited (asked l.may_lack (g.H.FormI18n.form_text l.h) l.object (map message_of l.messages)) (g.H.I18n.text l.h) l.initial.trail after l.initial.report new answer
