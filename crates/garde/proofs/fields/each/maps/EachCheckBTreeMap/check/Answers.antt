use Rattle.std.proofs.lemmas.Iterator.Consumers.{YieldsList-from_rest}
use Rattle.garde.proofs.fields.each.maps.EachCheckBTreeMap.check.Goals as goal

pub returns : goal.returns
returns g c = c.check_entries.ensures _ (YieldsList-from_rest _ c.iter-ascending.ensures.rest)
