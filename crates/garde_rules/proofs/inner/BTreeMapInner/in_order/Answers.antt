use Rattle.std.proofs.Common.{sym, ap, ◌∙◌}
use Rattle.garde_rules.specs.Inner.{keyed_items, component_items-key_place}
use Rattle.garde_rules.proofs.inner.BTreeMapInner.in_order.Goals as goal

pub returns : goal.returns
returns g c = ap (keyed_items g.K.PathComponentKind.kind g.K.PathComponentKind.text) c.iter.ensures.rest ∙ sym (component_items-key_place g.K.PathComponentKind.kind g.K.PathComponentKind.text c.args.self.now.entries)
