use Rattle.std.proofs.Common.{refl}
use Rattle.garde_report.specs.Part.{index_part}
use Rattle.garde.proofs.Author.{visited_full}
use Rattle.garde_schema.proofs.Lemmas.{told_under}
use Rattle.garde_schema.proofs.in_order.put_at.Goals as goal

pub returns-in_err-push : goal.returns-in_err-push
returns-in_err-push g c = visited_full (index_part c.args.index) _ refl c.in_err-push.ensures.err c.in_err-push.ensures.full c.from_residual.ensures.0

pub returns : goal.returns
returns g c = told_under (index_part c.args.index) _ c.index.ensures c.push.ensures.valid c.in_ok-push.ensures.ok c.put-told.ensures c.pop.ensures
