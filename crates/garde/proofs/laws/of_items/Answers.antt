use Rattle.garde.proofs.OverLists.{all_of_says, any_of_says}
use Rattle.garde.proofs.laws.of_items.Goals as goal

pub returns : goal.returns
returns g c holds = (all_of_says holds c.args.items.now, any_of_says holds c.args.items.now)
