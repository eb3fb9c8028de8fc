use Rattle.garde_catalog.proofs.SoFar.{BestSoFar}
use Rattle.garde_catalog.proofs.lookup.pick.Given as goal

abbrev pub invariant-loop-range : goal.invariant-loop-range
invariant-loop-range l = BestSoFar l.ranges l.offered l.range-index l.best
