use Rattle.std.proofs.Common.{rules}
use Rattle.garde.proofs.Visiting.{visited_then, visited_stop}
use Rattle.garde.proofs.fields.check.tuples.Tuple2Check.check.Goals as goal

pub returns-in_err-check : goal.returns-in_err-check
returns-in_err-check g c = visited_stop _ _ c.check.ensures (search rules) c.from_residual.ensures.0

pub returns : goal.returns
returns g c = visited_then _ _ c.check.ensures (search rules) c.check-2.ensures
