use Rattle.std.proofs.Common.{List, [], ap, ◌∙◌}
use Rattle.std.proofs.lemmas.Result.{IfOk-weaker}
use Rattle.garde_html.specs.Document.{form_pieces}
use Rattle.garde_html.specs.Page.{rendered}
use Rattle.garde_report.specs.Report.{Entry}
use Rattle.use_signup.proofs.page.write_page.Goals as goal

-- nothing was typed, and the report is new
pub returns : goal.returns
returns c =
    IfOk-weaker c.write_told-2.result _ _
    (λ html same. same ∙ ap (λ (told : List Entry). rendered (form_pieces c.args.form.now [] told)) c.new.ensures)
    c.write_told-2.ensures
