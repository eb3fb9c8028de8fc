use Rattle.std.proofs.Common.{◌≡◌, true, take}
use Rattle.std.specs.List.{list_all}
use Rattle.garde.proofs.fields.lists.all_of.Given as goal

-- the question holds of each before this one
abbrev pub invariant-loop-item : goal.invariant-loop-item
invariant-loop-item g l = list_all (λ x. g.Q.Question.holds l.question x) (take l.item-index l.items) ≡ true
