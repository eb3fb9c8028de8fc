use Rattle.std.proofs.Common.{refl}
use Rattle.garde_report.specs.Part.{part_of}
use Rattle.garde.proofs.Visiting.{visited_under, visited_full}
use Rattle.garde.proofs.fields.rules.ask_under.Goals as goal

pub returns-in_err-push : goal.returns-in_err-push
returns-in_err-push g c = visited_full (part_of c.args.component) _ refl c.in_err-push.ensures.err c.in_err-push.ensures.full c.from_residual.ensures.0

pub returns : goal.returns
returns g c = visited_under (part_of c.args.component) _ c.push.ensures.valid c.in_ok-push.ensures.ok c.ask-asked.ensures c.pop.ensures
