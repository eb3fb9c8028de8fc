use Rattle.std.proofs.lemmas.Iterator.{YieldsList-from_slice}
use Rattle.garde.proofs.Visiting.{visited_some_items}
use Rattle.garde.proofs.fields.each.sets.EachCheckBinaryHeap.check.Goals as goal

pub returns : goal.returns
returns g c = visited_some_items _ _ (c.check_items.ensures _ (YieldsList-from_slice _ c.iter-heap_order.ensures.rest))
