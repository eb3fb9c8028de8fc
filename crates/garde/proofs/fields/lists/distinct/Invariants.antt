use Rattle.std.proofs.Common.{◌≡◌, length}
use Rattle.garde.specs.OverLists.{distinct}
use Rattle.garde.proofs.fields.lists.distinct.Given as goal

-- the answer of the items that are left is that of all
abbrev pub invariant-loop-item : goal.invariant-loop-item
invariant-loop-item g l = distinct (λ x y. g.S.Same.same l.same x y) l.left ≡ distinct (λ x y. g.S.Same.same l.same x y) l.items

abbrev pub decreases-loop-item : goal.decreases-loop-item
decreases-loop-item g l = length l.left
