use Rattle.std.proofs.Common.{◌≡◌, false, take}
use Rattle.std.specs.List.{list_any}
use Rattle.garde.proofs.fields.lists.any_of.Given as goal

-- the question holds of none before this one
abbrev pub invariant-loop-item : goal.invariant-loop-item
invariant-loop-item g l = list_any (λ x. g.Q.Question.holds l.question x) (take l.item-index l.items) ≡ false
