use Rattle.std.proofs.lemmas.Iterator.Consumers.{YieldsList-from_rest}
use Rattle.garde.proofs.Visiting.{visited_some_entries}
use Rattle.garde.proofs.fields.each.maps.EachCheckHashMap.check.Goals as goal

pub returns : goal.returns
returns g c = visited_some_entries _ _ _ (c.check_entries.ensures _ (YieldsList-from_rest _ c.iter-some_order.ensures.rest))
