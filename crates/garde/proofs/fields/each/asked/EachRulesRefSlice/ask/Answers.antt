use Rattle.std.proofs.Common.{refl, rules}
use Rattle.std.specs.declared.alloc.AllocError.{AllocError}
use Rattle.garde_report.specs.Part.{index_part}
use Rattle.garde.specs.Visits.{under}
use Rattle.garde.proofs.Walks.{up_to_start, up_to_more}
use Rattle.garde.proofs.Rest.{item_left, none_numbered_left}
use Rattle.garde.proofs.Visiting.{is_walked, visited_entry, visited_entries, visited_numbered}
use Rattle.garde.proofs.fields.each.asked.EachRulesRefSlice.ask.Goals as goal

pub loop-index-init : goal.loop-index-init
loop-index-init g c = up_to_start refl

pub loop-index-preserved : goal.loop-index-preserved
unfolding under
loop-index-preserved g c =
    up_to_more c.loop-index.invariant (item_left c.args.value.now.now c.loop-index.index c.index-items-index.is c.loop-index-test.true)
    (is_walked (rw c.index-place.ensures at c.ask_under.ensures) (search rules))

pub returns-in_err-ask_under : goal.returns-in_err-ask_under
returns-in_err-ask_under g c = visited_numbered (λ x. g.R.Rules.asks c.args.self.now.0 x) c.args.value.now.now
    (visited_entry index_part (λ x. g.R.Rules.asks c.args.self.now.0 x) c.loop-index.invariant (item_left c.args.value.now.now c.loop-index.index c.index-items-index.is c.loop-index-test.true)
    (rw c.index-place.ensures at c.ask_under.ensures) (search rules) c.from_residual.ensures.0)

pub returns : goal.returns
returns g c = visited_numbered (λ x. g.R.Rules.asks c.args.self.now.0 x) c.args.value.now.now
    (visited_entries {E = AllocError} index_part (λ x. g.R.Rules.asks c.args.self.now.0 x) c.loop-index.invariant (none_numbered_left 0 c.args.value.now.now c.loop-index.index c.loop-index-test.false))
