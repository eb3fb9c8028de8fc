use Rattle.std.proofs.Common.{arith}
use Rattle.garde_catalog.proofs.SoFar.{passed, shorter, longer, longest_found, none_found, no_language}
use Rattle.garde_catalog.proofs.lookup.look_up.Goals as goal

pub loop-place-preserved-then-not-fits : goal.loop-place-preserved-then-not-fits
loop-place-preserved-then-not-fits c = passed c.args.offered.now c.args.range.now c.loop-place.place c.loop-place.best c.loop-place.longest no_language c.fits.result c.loop-place-test.true c.fits.ensures c.if-not-fits.true c.loop-place.invariant

pub loop-place-preserved-then-not-is_longer : goal.loop-place-preserved-then-not-is_longer
loop-place-preserved-then-not-is_longer c = shorter c.args.offered.now c.args.range.now c.loop-place.place c.loop-place.best c.loop-place.longest no_language c.is_longer.result c.loop-place-test.true c.is_longer.ensures c.if-not-is_longer.true c.loop-place.invariant

pub loop-place-preserved : goal.loop-place-preserved
loop-place-preserved c = longer c.args.offered.now c.args.range.now c.loop-place.place c.loop-place.best c.loop-place.longest no_language c.is_longer.result c.loop-place-test.true (c.fits.ensures.0 c.if-not-fits.false) c.is_longer.ensures c.if-not-is_longer.false c.loop-place.invariant

pub returns-clause-found : goal.returns-clause-found
returns-clause-found c = longest_found c.args.offered.now c.args.range.now c.loop-place.place c.loop-place.best c.loop-place.longest (omega arith) c.loop-place.invariant

pub returns-clause-none : goal.returns-clause-none
returns-clause-none c = none_found c.args.offered.now c.args.range.now c.loop-place.place c.loop-place.best c.loop-place.longest (omega arith) c.loop-place.invariant
