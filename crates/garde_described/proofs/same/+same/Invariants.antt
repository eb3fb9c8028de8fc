use Rattle.std.proofs.Common.{◌≡◌, ◌+◌, ◌*◌, length}
use Rattle.std.specs.List.{list_all}
use Rattle.garde_described.specs.Keywords.{items_same, member_same, same}
use Rattle.garde_described.proofs.same.+same.Given as goal

-- what is left is the same exactly where all is
abbrev pub invariant-items_same-loop-item : goal.invariant-items_same-loop-item
invariant-items_same-loop-item l = items_same (same l.left) l.items l.others ≡ items_same (same l.left) l.initial.items l.initial.others

abbrev pub decreases-items_same-loop-item : goal.decreases-items_same-loop-item
decreases-items_same-loop-item l = length l.items

abbrev pub invariant-members_same-loop-name : goal.invariant-members_same-loop-name
invariant-members_same-loop-name l = list_all (member_same (same l.left) l.other) l.rest ≡ list_all (member_same (same l.left) l.other) l.initial.rest

abbrev pub decreases-members_same-loop-name : goal.decreases-members_same-loop-name
decreases-members_same-loop-name l = length l.rest

-- a call goes to a function of a lower rank, or one level down
abbrev pub decreases-is_same_within : goal.decreases-is_same_within
decreases-is_same_within l = 8 * l.left

abbrev pub decreases-lists_same : goal.decreases-lists_same
decreases-lists_same l = 8 * l.left + 2

abbrev pub decreases-items_same : goal.decreases-items_same
decreases-items_same l = 8 * l.left + 1

abbrev pub decreases-objects_same : goal.decreases-objects_same
decreases-objects_same l = 8 * l.left + 3

abbrev pub decreases-members_same : goal.decreases-members_same
decreases-members_same l = 8 * l.left + 2

abbrev pub decreases-found_same : goal.decreases-found_same
decreases-found_same l = 8 * l.left + 1

abbrev pub decreases-one_level : goal.decreases-one_level
decreases-one_level l = 8 * l.left + 4
