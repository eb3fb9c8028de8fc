use Rattle.garde_catalog.proofs.SoFar.{with_none, with_range}
use Rattle.garde_catalog.proofs.field.with_element.Goals as goal

pub returns-in-Some : goal.returns-in-Some
returns-in-Some c = with_range c.args.offered.now c.args.element.now c.range_of.result c.in-Some.range c.args.best c.with_range.result c.range_of.ensures c.in-Some.is c.with_range.ensures

pub returns-in-None : goal.returns-in-None
returns-in-None c = with_none c.args.offered.now c.args.element.now c.range_of.result c.args.best c.range_of.ensures c.in-None.is
