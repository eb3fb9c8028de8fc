use Rattle.std.proofs.lemmas.Iterator.Consumers.{YieldsList-from_deque}
use Rattle.garde.proofs.fields.each.sequences.EachCheckVecDeque.check.Goals as goal

pub returns : goal.returns
returns g c = c.check_items.ensures _ (YieldsList-from_deque _ c.iter-front_to_back.ensures.rest)
