use Rattle.std.proofs.Common.{◌≡◌, ◌++◌, [], ◌∷◌}
use Rattle.garde_report.specs.Report.{messages_under}
use Rattle.garde_html.specs.Controls.{messages_pieces}
use Rattle.garde_html.proofs.controls.put_messages.Given as goal

-- what is written, and then the messages to come, are all
abbrev pub invariant-loop-error : goal.invariant-loop-error
invariant-loop-error l =
    l.page ++ messages_pieces l.error-iterator ≡ l.initial.page ++ messages_pieces (messages_under (l.field.name.now ∷ []) l.report)
