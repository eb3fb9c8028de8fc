use Rattle.std.proofs.Common.{arith}
use Rattle.garde_catalog.proofs.Made.{in_order_all, in_order_next}
use Rattle.garde_catalog.proofs.lines.is_in_order.Goals as goal

pub loop-place-preserved : goal.loop-place-preserved
loop-place-preserved c = in_order_next c.args.entries.now c.args.messages.now c.loop-place.place _ c.loop-place-test.true (c.is_at.ensures c.if-not-is_at.false) c.loop-place.invariant

pub returns : goal.returns
returns c = λ _. in_order_all c.args.entries.now c.args.messages.now c.loop-place.place (omega arith) c.loop-place.invariant
