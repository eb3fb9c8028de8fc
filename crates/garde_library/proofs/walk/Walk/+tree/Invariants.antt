use Rattle.std.proofs.Common.{◌*◌, suc, length}
use Rattle.json.specs.Tree.{json_tokens}
use Rattle.garde_library.proofs.Growing.{each_size, pair_size, EachUpTo, PairsUpTo}
use Rattle.garde_library.proofs.walk.Walk.+tree.Given as goal

abbrev pub decreases-push_tree : goal.decreases-push_tree
decreases-push_tree l = 2 * length (json_tokens l.tree.now)

abbrev pub decreases-push_items : goal.decreases-push_items
decreases-push_items l = suc (2 * each_size l.items)

abbrev pub decreases-push_members : goal.decreases-push_members
decreases-push_members l = suc (2 * pair_size l.members)

-- what is added so far and the items that are left are all items
abbrev pub invariant-push_items-loop-item : goal.invariant-push_items-loop-item
invariant-push_items-loop-item l =
    EachUpTo l.items l.fn.items l.fn.self.body l.self.body l.fn.self.nodes.items l.fn.self.room.items l.self.nodes.items l.self.room.items

abbrev pub decreases-push_items-loop-item : goal.decreases-push_items-loop-item
decreases-push_items-loop-item l = length l.items

-- the same of members
abbrev pub invariant-push_members-loop-name : goal.invariant-push_members-loop-name
invariant-push_members-loop-name l =
    PairsUpTo l.members l.fn.members l.fn.self.body l.self.body l.fn.self.nodes.items l.fn.self.room.items l.self.nodes.items l.self.room.items

abbrev pub decreases-push_members-loop-name : goal.decreases-push_members-loop-name
decreases-push_members-loop-name l = length l.members
