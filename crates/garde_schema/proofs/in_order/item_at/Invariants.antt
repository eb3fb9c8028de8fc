use Rattle.std.proofs.Common.{◌≡◌, length}
use Rattle.garde_schema.specs.InOrder.{item_at}
use Rattle.garde_schema.proofs.in_order.item_at.Given as goal

-- the item that is looked for among those that are left is that of all
abbrev pub invariant-loop-item : goal.invariant-loop-item
invariant-loop-item l = item_at l.before l.left ≡ item_at l.initial.before l.initial.left

abbrev pub decreases-loop-item : goal.decreases-loop-item
decreases-loop-item l = length l.left
