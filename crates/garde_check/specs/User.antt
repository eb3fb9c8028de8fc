-- The visits of a user, and the one tree that it has.
use Rattle.std.specs.Prelude.{List, ℕ}
use Rattle.garde.specs.Fields.{◌and◌, ascii, between, bytes, codes, field, is, key_part, str, Visits}
use Rattle.garde.specs.Tree.{Tree, nothing, under, ◌then◌, found_tree}
use Rattle.garde_check.specs.declared.user.User.{User}

-- Under the key `username`, the rule that the name is ASCII, and then the rule that its length is
-- at least 3 and at most 25.
abbrev pub user_visits : User → Visits
user_visits user =
    let name = str user.username in
    field "username" (is (ascii name) and is (bytes (between 3 25) name))

-- the tree of a user of this name: one step, and under it what the rules find
abbrev pub named_tree : List ℕ → Tree
named_tree name =
    under (key_part (codes "username")) (found_tree (ascii name) then found_tree (bytes (between 3 25) name)) nothing
