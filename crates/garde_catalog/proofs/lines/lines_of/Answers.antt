use Rattle.std.proofs.Common.{◌≤◌, ◌-◌, arith, drop, inr, length, length-drop, refl, take_all}
use Rattle.garde_catalog.proofs.Made.{in_order}
use Rattle.garde_catalog.proofs.lines.lines_of.Goals as goal

pub returns-then-is_in_order : goal.returns-then-is_in_order
returns-then-is_in_order c =
    let entries = c.args.entries.now in
    let order = c.is_in_order.ensures c.if-is_in_order.true in
    let to_the_end : length (drop 68 entries) ≤ length entries - 68 = omega (arith, length-drop 68 entries) in
    record {
      all = refl;
      split = inr (λ place message at. in_order entries c.messages.result.now order place message c.messages.ensures at, refl, take_all _ _ to_the_end);
    }
