use Rattle.std.proofs.Common.{refl, rules}
use Rattle.std.specs.List.{enumerate_from}
use Rattle.std.proofs.lemmas.Iterator.Consumers.{YieldsList-at, YieldsList-from_enumerate}
use Rattle.garde_report.specs.Part.{index_part}
use Rattle.garde.specs.Visits.{under}
use Rattle.garde.proofs.Walks.{up_to_start, up_to_more}
use Rattle.garde.proofs.Rest.{left_before, none_left}
use Rattle.garde.proofs.Visiting.{is_walked, visited_entry, visited_entries, visited_numbered}
use Rattle.garde.proofs.fields.each.loops.check_items.Goals as goal

pub loop-index-init : goal.loop-index-init
loop-index-init g c = λ es road. up_to_start refl

pub loop-index-preserved : goal.loop-index-preserved
unfolding under
loop-index-preserved g c = λ es road.
    up_to_more (c.loop-index.invariant es road) (left_before road _ _ c.loop-index.yielded_by _ _ c.in-Some.ensures.steps) (is_walked (rw c.index.ensures at c.check_under.ensures) (search rules))

pub returns-in_err-check_under : goal.returns-in_err-check_under
returns-in_err-check_under g c = λ xs given.
    let source = YieldsList-at c.enumerate-index-items.ensures.source given in
    let road = YieldsList-at c.into_iter-index-iterator.ensures.into_iter_gives (YieldsList-from_enumerate source c.enumerate-index-items.ensures.count) in
    visited_numbered (λ x. g.C.Check.visits c.args.check.now x) xs
    (visited_entry index_part (λ x. g.C.Check.visits c.args.check.now x) (c.loop-index.invariant (enumerate_from 0 xs) road) (left_before road _ _ c.loop-index.yielded_by _ _ c.in-Some.ensures.steps) (rw c.index.ensures at c.check_under.ensures) (search rules) c.from_residual.ensures.0)

pub returns : goal.returns
returns g c = λ xs given.
    let source = YieldsList-at c.enumerate-index-items.ensures.source given in
    let road = YieldsList-at c.into_iter-index-iterator.ensures.into_iter_gives (YieldsList-from_enumerate source c.enumerate-index-items.ensures.count) in
    visited_numbered (λ x. g.C.Check.visits c.args.check.now x) xs
    (visited_entries index_part (λ x. g.C.Check.visits c.args.check.now x) (c.loop-index.invariant (enumerate_from 0 xs) road) (none_left road _ _ c.loop-index.yielded_by _ c.in-None.ensures.steps))
