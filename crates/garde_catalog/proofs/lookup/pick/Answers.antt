use Rattle.std.proofs.Common.{arith}
use Rattle.garde_catalog.proofs.SoFar.{no_range, on_seen, picked}
use Rattle.garde_catalog.proofs.lookup.pick.Goals as goal

pub loop-range-preserved : goal.loop-range-preserved
loop-range-preserved c = on_seen c.args.ranges.now c.args.offered.now c.loop-range.range-index c.loop-range.best c.with_range-best.result no_range c.loop-range-test.true c.with_range-best.ensures c.loop-range.invariant

pub returns : goal.returns
returns c = picked c.args.ranges.now c.args.offered.now c.loop-range.range-index c.loop-range.best (omega arith) c.loop-range.invariant
