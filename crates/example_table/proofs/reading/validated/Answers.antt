use Rattle.std.proofs.Common.{ap, ◌∙◌}
use Rattle.garde.specs.Tree.{flat}
use Rattle.garde.specs.Words.{default_text}
use Rattle.example_table.proofs.reading.validated.Goals as goal

pub returns-in-Err-Report : goal.returns-in-Err-Report
returns-in-Err-Report c =
    let a = rw c.in-Err-Report.field-0-is at c.in-Err-Report.ensures.on in
    (a.0, a.1, a.2, c.in-Err-Report.report-is ∙ a.3 ∙ ap (λ under. flat default_text under a.0) c.in_ok-trail.ensures)
