use Rattle.std.proofs.Common.{◌≤◌, max, drop}
use Rattle.toml.specs.View.{items_view, members_view}
use Rattle.garde_toml.specs.Nesting.{items_nesting, members_nesting}
use Rattle.garde_toml.proofs.nesting.+nesting.Given as goal

-- what is done is not too deep, and what is left belongs to the whole
abbrev pub invariant-items_nest_within-loop-item : goal.invariant-items_nest_within-loop-item
invariant-items_nest_within-loop-item l =
    let left = items_nesting (items_view (drop l.item-index l.item-items)) in
    let all = items_nesting (items_view l.item-items) in
    (all ≤ max l.fn.most left) × (left ≤ all)

abbrev pub invariant-members_nest_within-loop-key : goal.invariant-members_nest_within-loop-key
invariant-members_nest_within-loop-key l =
    let left = members_nesting (members_view l._key-iterator) in
    let all = members_nesting (members_view l.fn.members.entries) in
    (all ≤ max l.fn.most left) × (left ≤ all)
