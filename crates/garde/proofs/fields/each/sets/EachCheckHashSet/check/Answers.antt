use Rattle.std.proofs.lemmas.Iterator.Consumers.{YieldsList-from_rest}
use Rattle.garde.proofs.Visiting.{visited_some_items}
use Rattle.garde.proofs.fields.each.sets.EachCheckHashSet.check.Goals as goal

pub returns : goal.returns
returns g c = visited_some_items _ _ (c.check_items.ensures _ (YieldsList-from_rest _ c.iter-some_order.ensures.rest))
