use Rattle.std.proofs.Common.{refl, rules}
use Rattle.std.proofs.lemmas.Iterator.Consumers.{YieldsList-at}
use Rattle.garde.specs.Visits.{under}
use Rattle.garde.proofs.Walks.{up_to_start, up_to_more}
use Rattle.garde.proofs.Rest.{left_before, none_left}
use Rattle.garde.proofs.Visiting.{is_walked, visited_entry, visited_entries}
use Rattle.garde.proofs.fields.each.loops.check_entries.Goals as goal

pub loop-key-init : goal.loop-key-init
loop-key-init g c = λ es road. up_to_start refl

pub loop-key-preserved : goal.loop-key-preserved
unfolding under
loop-key-preserved g c = λ es road.
    up_to_more (c.loop-key.invariant es road) (left_before road _ _ c.loop-key.yielded_by _ _ c.in-Some.ensures.steps) (is_walked (rw c.component.ensures at c.check_under.ensures) (search rules))

pub returns-in_err-check_under : goal.returns-in_err-check_under
returns-in_err-check_under g c = λ es given.
    let road = YieldsList-at c.into_iter-key-iterator.ensures.into_iter_gives given in
    visited_entry _ (λ x. g.C.Check.visits c.args.check.now x) (c.loop-key.invariant es road) (left_before road _ _ c.loop-key.yielded_by _ _ c.in-Some.ensures.steps) (rw c.component.ensures at c.check_under.ensures) (search rules) c.from_residual.ensures.0

pub returns : goal.returns
returns g c = λ es given.
    let road = YieldsList-at c.into_iter-key-iterator.ensures.into_iter_gives given in
    visited_entries _ (λ x. g.C.Check.visits c.args.check.now x) (c.loop-key.invariant es road) (none_left road _ _ c.loop-key.yielded_by _ c.in-None.ensures.steps)
