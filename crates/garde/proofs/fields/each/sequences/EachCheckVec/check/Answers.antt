use Rattle.std.proofs.Common.{◌∙◌}
use Rattle.std.proofs.lemmas.Iterator.{YieldsList-from_slice}
use Rattle.garde.proofs.fields.each.sequences.EachCheckVec.check.Goals as goal

pub returns : goal.returns
returns g c = c.check_items.ensures _ (YieldsList-from_slice _ (c.iter.ensures.rest ∙ c.deref.ensures.value))
