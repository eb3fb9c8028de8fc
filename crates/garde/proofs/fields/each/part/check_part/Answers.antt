use Rattle.std.proofs.Common.{refl, rules}
use Rattle.garde_report.specs.Part.{index_part}
use Rattle.garde.specs.Visits.{under}
use Rattle.garde.proofs.Walks.{up_to_start, up_to_more}
use Rattle.garde.proofs.Rest.{numbered_left, none_numbered_left}
use Rattle.garde.proofs.Visiting.{is_walked, visited_entry, visited_entries}
use Rattle.garde.proofs.fields.each.part.check_part.Goals as goal

pub loop-index-init : goal.loop-index-init
loop-index-init g c = up_to_start refl

pub returns-in_err-check_under : goal.returns-in_err-check_under
returns-in_err-check_under g c =
    visited_entry index_part (λ x. g.C.Check.visits c.args.check.now x) c.loop-index.invariant (numbered_left c.args.first c.args.part.now c.loop-index.index c.index-part-index.is c.loop-index-test.true)
    (rw c.index.ensures at c.check_under.ensures) (search rules) c.from_residual.ensures.0

pub loop-index-preserved : goal.loop-index-preserved
unfolding under
loop-index-preserved g c =
    up_to_more c.loop-index.invariant (numbered_left c.args.first c.args.part.now c.loop-index.index c.index-part-index.is c.loop-index-test.true)
    (is_walked (rw c.index.ensures at c.check_under.ensures) (search rules))

pub returns : goal.returns
returns g c =
    visited_entries index_part (λ x. g.C.Check.visits c.args.check.now x) c.loop-index.invariant (none_numbered_left c.args.first c.args.part.now c.loop-index.index c.loop-index-test.false)
