use Rattle.std.proofs.Common.{refl}
use Rattle.garde_report.specs.Part.{part_of}
use Rattle.garde_schema.proofs.Lemmas.{told_under, told_under_full}
use Rattle.garde_schema.proofs.list.read_in.Goals as goal

pub returns-in_err-push-clause-answer : goal.returns-in_err-push-clause-answer
returns-in_err-push-clause-answer g c = told_under_full (part_of c.args.component) _ c.from_residual.result refl c.in_err-push.ensures.err c.in_err-push.ensures.full c.from_residual.ensures.0

pub returns-clause-answer : goal.returns-clause-answer
returns-clause-answer g c = told_under (part_of c.args.component) _ refl c.push.ensures.valid c.in_ok-push.ensures.ok c.read-value.ensures.answer c.pop.ensures
