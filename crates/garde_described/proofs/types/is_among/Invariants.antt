use Rattle.std.proofs.Common.{◌≡◌, length}
use Rattle.std.specs.List.{list_any}
use Rattle.garde_described.specs.Keywords.{has_type_named}
use Rattle.garde_described.proofs.types.is_among.Given as goal

-- one of what is left is it exactly where one of all is
abbrev pub invariant-loop-name : goal.invariant-loop-name
invariant-loop-name l = list_any (λ name. has_type_named l.tree name) l.left ≡ list_any (λ name. has_type_named l.tree name) l.initial.left

abbrev pub decreases-loop-name : goal.decreases-loop-name
decreases-loop-name l = length l.left
