use Rattle.std.proofs.Common.{refl}
use Rattle.garde_report.specs.Part.{index_part}
use Rattle.garde_rows.proofs.Whole.{told_under, told_under_full}
use Rattle.garde_rows.proofs.row_form.RowFormForm.read.Goals as goal

pub returns-in_err-push-clause-answer : goal.returns-in_err-push-clause-answer
returns-in_err-push-clause-answer g c = told_under_full (index_part c.args.self.now.index) _ c.from_residual.result refl c.in_err-push.ensures.err c.in_err-push.ensures.full c.from_residual.ensures.0

pub returns-clause-answer : goal.returns-clause-answer
returns-clause-answer g c = told_under (index_part c.args.self.now.index) _ c.index.ensures c.push.ensures.valid c.in_ok-push.ensures.ok c.read_cells-value.ensures.answer c.pop.ensures
