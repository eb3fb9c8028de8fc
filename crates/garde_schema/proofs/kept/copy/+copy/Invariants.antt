use Rattle.std.proofs.Common.{◌≡◌, ◌<◌, ◌+◌, ◌*◌, ◌++◌, length}
use Rattle.std.specs.List.{All}
use Rattle.json.specs.Tree.{depth}
use Rattle.garde_schema.specs.Kept.{member_views, views_of}
use Rattle.garde_schema.proofs.kept.copy.+copy.Given as goal

-- each call is of a smaller one: from a list to its items, and to an item, which nests less deep
abbrev pub decreases-copy_value : goal.decreases-copy_value
decreases-copy_value l = 2 * depth l.tree.now + 1

abbrev pub decreases-copy_items : goal.decreases-copy_items
decreases-copy_items l = 2 * depth l.list.now

abbrev pub decreases-copy_members : goal.decreases-copy_members
decreases-copy_members l = 2 * depth l.object.now

-- what is copied, and then what is left, is all
abbrev pub invariant-copy_items-loop-item : goal.invariant-copy_items-loop-item
invariant-copy_items-loop-item l =
    (views_of l.values.items ++ l.left ≡ l.initial.left)
    × All (λ x. depth x < depth l.list) l.left

abbrev pub decreases-copy_items-loop-item : goal.decreases-copy_items-loop-item
decreases-copy_items-loop-item l = length l.left

abbrev pub invariant-copy_members-loop-name : goal.invariant-copy_members-loop-name
invariant-copy_members-loop-name l =
    (member_views l.values.items ++ l.left ≡ l.initial.left)
    × All (λ m. depth m.1 < depth l.object) l.left

abbrev pub decreases-copy_members-loop-name : goal.decreases-copy_members-loop-name
decreases-copy_members-loop-name l = length l.left
