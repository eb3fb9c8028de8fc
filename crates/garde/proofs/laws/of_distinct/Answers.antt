use Rattle.garde.proofs.OverLists.{distinct_says}
use Rattle.garde.proofs.laws.of_distinct.Goals as goal

pub returns : goal.returns
returns g c same = distinct_says same c.args.items.now
