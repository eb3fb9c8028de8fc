use Rattle.std.proofs.Common.{rules}
use Rattle.garde.proofs.Visiting.{visited_then, visited_stop}
use Rattle.garde.proofs.fields.tuples.Tuple2Fields.visit.Goals as goal

pub returns-in_err-visit : goal.returns-in_err-visit
returns-in_err-visit g c = visited_stop _ _ c.visit.ensures (search rules) c.from_residual.ensures.0

pub returns : goal.returns
returns g c = visited_then _ _ c.visit.ensures (search rules) c.visit-2.ensures
