use Rattle.std.proofs.Common.{◌≡◌, false, take}
use Rattle.std.specs.List.{list_any}
use Rattle.garde.proofs.fields.unique.includes.Given as goal

-- none before this one is the same as the item
abbrev pub invariant-loop-other : goal.invariant-loop-other
invariant-loop-other g l = list_any (λ x. g.S.Same.same l.same x l.item) (take l.other-index l.items) ≡ false
