use Rattle.std.proofs.Common.{◌≡◌, length}
use Rattle.std.specs.List.{list_any}
use Rattle.garde_described.specs.Keywords.{is_same}
use Rattle.garde_described.proofs.same.is_among.Given as goal

-- one of what is left is it exactly where one of all is
abbrev pub invariant-loop-value : goal.invariant-loop-value
invariant-loop-value l = list_any (λ v. is_same v l.tree) l.left ≡ list_any (λ v. is_same v l.tree) l.initial.left

abbrev pub decreases-loop-value : goal.decreases-loop-value
decreases-loop-value l = length l.left
