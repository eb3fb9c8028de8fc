use Rattle.std.proofs.Common.{refl, rules}
use Rattle.std.specs.declared.alloc.AllocError.{AllocError}
use Rattle.garde_report.specs.Part.{index_part}
use Rattle.garde.specs.Fields.{asks_text}
use Rattle.garde.specs.Visits.{under, found}
use Rattle.garde.proofs.FirstItems.{firsts_step, firsts_done}
use Rattle.garde.proofs.Walks.{up_to_start, up_to_more}
use Rattle.garde.proofs.Visiting.{is_walked, visited_entry, visited_entries}
use Rattle.garde.proofs.fields.unique.UniqueRulesRefSlice.ask.Goals as goal

pub loop-index-init : goal.loop-index-init
loop-index-init g c = up_to_start refl

pub loop-index-preserved : goal.loop-index-preserved
unfolding under
loop-index-preserved g c =
    up_to_more c.loop-index.invariant (firsts_step _ _ c.loop-index.index c.index-items-index.result c.loop-index-test.true c.index-items-index.is)
    (is_walked (rw c.index.ensures at rw c.includes.ensures at c.ask_under.ensures) (search rules))

pub returns-in_err-ask_under : goal.returns-in_err-ask_under
returns-in_err-ask_under g c =
    (visited_entry index_part (λ first. found (asks_text c.args.self.now.0.now first)) c.loop-index.invariant
    (firsts_step _ _ c.loop-index.index c.index-items-index.result c.loop-index-test.true c.index-items-index.is)
    (rw c.index.ensures at rw c.includes.ensures at c.ask_under.ensures) (search rules) c.from_residual.ensures.0)

pub returns : goal.returns
returns g c =
    (visited_entries {E = AllocError} index_part (λ first. found (asks_text c.args.self.now.0.now first)) c.loop-index.invariant (firsts_done _ _ c.loop-index.index c.loop-index-test.false))
