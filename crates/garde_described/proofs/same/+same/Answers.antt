use Rattle.std.proofs.Common.{false, rules, sym, true, ◌∙◌, ◌≡◌}
use Rattle.garde_described.proofs.Lemmas.{items_end, items_fewer, items_more, items_next, items_other, same_next, same_zero}
use Rattle.garde_described.specs.Keywords.{same}
use Rattle.garde_described.proofs.same.+same.Goals as goal

pub is_same_within-returns-then-left-eq0 : goal.is_same_within-returns-then-left-eq0
is_same_within-returns-then-left-eq0 t c = sym (same_zero c.args.left c.args.a.now c.args.b.now (search rules))

pub is_same_within-returns : goal.is_same_within-returns
is_same_within-returns t c = c.one_level.ensures ∙ sym (same_next c.args.left c.args.a.now c.args.b.now (search rules))

pub items_same-returns-in_default-next : goal.items_same-returns-in_default-next
items_same-returns-in_default-next t c = sym (items_fewer (same c.args.left) _ _ _ _ c.in-Some.ensures.steps c.in_default-next.ensures.steps.0) ∙ c.loop-item.invariant

pub items_same-returns-then-not-is_same_within : goal.items_same-returns-then-not-is_same_within
items_same-returns-then-not-is_same_within t c =
    let differs : same c.args.left c.in-Some.item c.in-Some-next.other ≡ false = cc in
    sym (items_other (same c.args.left) _ _ _ _ _ _ c.in-Some.ensures.steps c.in-Some-next.ensures.steps differs) ∙ c.loop-item.invariant

pub items_same-loop-item-preserved : goal.items_same-loop-item-preserved
items_same-loop-item-preserved t c =
    let alike : same c.args.left c.in-Some.item c.in-Some-next.other ≡ true = cc in
    sym (items_next (same c.args.left) _ _ _ _ _ _ c.in-Some.ensures.steps c.in-Some-next.ensures.steps alike) ∙ c.loop-item.invariant

pub items_same-returns-in-Some-next-2 : goal.items_same-returns-in-Some-next-2
items_same-returns-in-Some-next-2 t c = sym (items_more (same c.args.left) _ _ _ _ c.in_default.ensures.steps.0 c.in-Some-next-2.ensures.steps) ∙ c.loop-item.invariant

pub items_same-returns-in-None : goal.items_same-returns-in-None
items_same-returns-in-None t c = sym (items_end (same c.args.left) _ _ c.in_default.ensures.steps.0 c.in-None.ensures.steps.0) ∙ c.loop-item.invariant
