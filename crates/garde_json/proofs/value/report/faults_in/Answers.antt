use Rattle.std.proofs.Common.{rules, [], ◌∷◌, ◌++◌}
use Rattle.serde_json.specs.View.{view}
use Rattle.garde_json.specs.First.{entries_json}
use Rattle.garde_json.specs.Json.{entry_json}
use Rattle.garde_json.proofs.Listed.{grown_by, none_reads}
use Rattle.garde_json.proofs.ValueItems.{all_read, item_astray, one_more}
use Rattle.garde_json.proofs.value.report.faults_in.Goals as goal

-- an item is no fault
pub returns-in_err-fault : goal.returns-in_err-fault
returns-in_err-fault c =
    none_reads entries_json _ c.from_residual-in_err-fault.result (search rules)
    (item_astray entry_json (view c.args.tree.now) c.deref-entry-items.result.now c.loop-entry.entry-index c.entry-item.result
    (rw c.deref-entry-items.ensures.value c.in_ok-as_array.ensures) c.loop-entry-test.true c.entry-item.is (c.in_err-fault.ensures {u = tt}))

-- an item is a fault, and the report has it
pub loop-entry-preserved : goal.loop-entry-preserved
loop-entry-preserved c =
    let entries = c.loop-entry.invariant in
    let next = c.in_ok-fault.ensures {u = tt} in (
      entries.0 ++ (next.0 ∷ []),
      one_more entry_json c.deref-entry-items.result.now c.loop-entry.entry-index c.entry-item.result entries.0 next.0
          c.loop-entry-test.true c.entry-item.is entries.1 next.1,
      grown_by c.with_fault-report.result c.loop-entry.report c.in_ok-fault.fault entries.0 next.0 c.with_fault-report.ensures entries.2 next.2,
    )

-- no item is left
pub returns : goal.returns
returns c =
    let entries = c.loop-entry.invariant in
    (entries.0, all_read entry_json (view c.args.tree.now) c.deref-entry-items.result.now c.loop-entry.entry-index entries.0 (rw c.deref-entry-items.ensures.value c.in_ok-as_array.ensures) (search rules) entries.1, entries.2)
