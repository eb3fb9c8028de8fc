use Rattle.std.proofs.Common.{◌*◌, ◌+◌}
use Rattle.garde.proofs.recursive.+fn-walk-apply+walk.Given as goal

abbrev pub decreases-apply : goal.decreases-apply
decreases-apply g l = 2 * g.T.Recursive.nest.size l.child.now + 1

abbrev pub decreases-walk : goal.decreases-walk
decreases-walk g l = 2 * g.T.Recursive.nest.size l.value.now
