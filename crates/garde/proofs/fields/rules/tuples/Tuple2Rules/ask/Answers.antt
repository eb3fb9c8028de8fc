use Rattle.std.proofs.Common.{rules}
use Rattle.garde.proofs.Visiting.{visited_then, visited_stop}
use Rattle.garde.proofs.fields.rules.tuples.Tuple2Rules.ask.Goals as goal

pub returns-in_err-ask : goal.returns-in_err-ask
returns-in_err-ask g c = visited_stop _ _ c.ask.ensures (search rules) c.from_residual.ensures.0

pub returns : goal.returns
returns g c = visited_then _ _ c.ask.ensures (search rules) c.ask-2.ensures
