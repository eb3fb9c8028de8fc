use Rattle.garde_catalog.proofs.SoFar.{LongestSoFar}
use Rattle.garde_catalog.proofs.lookup.look_up.Given as goal

abbrev pub invariant-loop-place : goal.invariant-loop-place
invariant-loop-place l = LongestSoFar l.offered l.range l.place l.best l.longest
