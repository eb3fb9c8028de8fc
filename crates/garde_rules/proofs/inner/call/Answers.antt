use Rattle.std.proofs.Common.{refl}
use Rattle.garde_rules.proofs.inner.call.Goals as goal

pub returns : goal.returns
returns g c = record { item = _; component = _; trail_before = _; report_before = _; trail_after = _; report_after = _; met = c.f.ensures; at_item = refl; at_component = refl; trail_was = refl; report_was = refl; trail_is = refl; report_is = refl }
