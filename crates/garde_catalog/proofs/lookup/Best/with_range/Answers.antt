use Rattle.garde_catalog.specs.Field.{want_of}
use Rattle.garde_catalog.proofs.SoFar.{in_vain, is_heavier, no_heavier}
use Rattle.garde_catalog.proofs.lookup.Best.with_range.Goals as goal

pub returns-then-range-self : goal.returns-then-range-self
returns-then-range-self c = λ seen h. no_heavier seen c.args.offered.now c.args.self.place c.args.self.weight (want_of c.args.range.now) c.if-range-self.true h

pub returns-in-None : goal.returns-in-None
returns-in-None c = λ seen h. in_vain seen c.args.offered.now c.args.self.place c.args.self.weight (want_of c.args.range.now) c.in-None.ensures.none h

pub returns-in-Some : goal.returns-in-Some
returns-in-Some c = λ seen h. is_heavier seen c.args.offered.now c.args.self.place c.args.self.weight (want_of c.args.range.now) c.in-Some.place c.if-range-self.false c.in-Some.ensures.found h
