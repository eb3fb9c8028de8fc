use Rattle.std.proofs.Common.{rules, [], ◌∷◌, ◌++◌, sym, ◌∙◌}
use Rattle.garde_json.specs.Json.{entry_json}
use Rattle.garde_json.specs.First.{entries_json}
use Rattle.garde_json.specs.Form.{spelled}
use Rattle.garde_json.proofs.Listed.{left_is, more_is, end_is, none_reads, grown_by, some_more, none_listed}
use Rattle.garde_json.proofs.read.faults_in.Goals as goal

-- an item is no fault
pub returns-in_err-fault-clause-read : goal.returns-in_err-fault-clause-read
returns-in_err-fault-clause-read c =
    let entries = c.loop-item.invariant in
    none_reads (spelled entries_json) _ c.from_residual-in_err-fault.result (search rules)
    (left_is entry_json _ c.in-Some.item entries.0 c.loop-item.items _ c.in-Some.ensures.steps entries.1 (c.in_err-fault.ensures {u = tt}))

-- an item is a fault, and the report has it
pub loop-item-preserved : goal.loop-item-preserved
loop-item-preserved c =
    let entries = c.loop-item.invariant in
    let next = c.in_ok-fault.ensures {u = tt} in (
      entries.0 ++ (next.0 ∷ []),
      more_is entry_json _ c.in-Some.item entries.0 next.0 c.loop-item.items _ c.in-Some.ensures.steps next.1 entries.1,
      grown_by c.with_fault-report.result c.loop-item.report c.in_ok-fault.fault entries.0 next.0 c.with_fault-report.ensures entries.2 next.2,
      λ none. absurd (some_more entries.0 next.0 none),
    )

-- no item is left
pub returns-clause-read : goal.returns-clause-read
returns-clause-read c =
    let entries = c.loop-item.invariant in
    (entries.0, end_is entry_json _ entries.0 c.loop-item.items c.in_default.ensures.steps.0 entries.1, entries.2)

pub returns-clause-empty : goal.returns-clause-empty
returns-clause-empty c = λ none.
    let entries = c.loop-item.invariant in
    let all = end_is entry_json _ entries.0 c.loop-item.items c.in_default.ensures.steps.0 entries.1 in
    entries.3 (none_listed entry_json entries.0 (sym all ∙ none))
