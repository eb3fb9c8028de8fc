use Rattle.std.proofs.Common.{List, ap, ap₂, ◌∙◌}
use Rattle.std.proofs.lemmas.Result.{IfOk-weaker}
use Rattle.garde_html.specs.Document.{form_pieces}
use Rattle.garde_html.specs.Form.{Typed}
use Rattle.garde_html.specs.Page.{rendered}
use Rattle.garde_html.specs.Worded.{worded}
use Rattle.garde_report.specs.Report.{Entry}
use Rattle.use_signup.proofs.page.write_faults.Goals as goal

-- the fields are those that were taken, and the faults those that were worded
pub returns : goal.returns
returns g c =
    IfOk-weaker c.write_told.result _ _ (λ html same. (
      c.in_ok-typed.typed.items,
      c.in_ok-typed.ensures,
      same ∙ ap rendered (ap₂ (λ (typed : List Typed) (told : List Entry). form_pieces c.args.form.now typed told) c.as_slice-2.ensures.value
          (c.in_ok-told.ensures
          ∙ ap (λ (typed : List Typed). worded (g.H.I18n.text c.args.h.now) c.args.form.now.fields.now typed c.args.report.now)
          c.as_slice.ensures.value)),
    ))
    c.write_told.ensures
