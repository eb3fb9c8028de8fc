use Rattle.std.proofs.Common.{◌≡◌, map, drop}
use Rattle.garde_form.specs.Members.{list_under, named}
use Rattle.garde_form.proofs.lists.list_under.Given as goal

-- the answer of the lists that are left is that of all
abbrev pub invariant-loop-list : goal.invariant-loop-list
invariant-loop-list l = list_under l.name (map named (drop l.list-index l.lists)) ≡ list_under l.name (map named l.lists)
