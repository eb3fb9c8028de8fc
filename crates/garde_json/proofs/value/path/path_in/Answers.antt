use Rattle.std.proofs.Common.{rules, [], ◌∷◌, ◌++◌}
use Rattle.serde_json.specs.View.{view}
use Rattle.garde_json.specs.Json.{part_json, path_json}
use Rattle.garde_report.specs.Part.{part}
use Rattle.garde_json.proofs.Listed.{grown, none_reads}
use Rattle.garde_json.proofs.ValueItems.{all_read, item_astray, one_more}
use Rattle.garde_json.proofs.value.path.path_in.Goals as goal

-- an item is no component
pub returns-in_err-kind : goal.returns-in_err-kind
returns-in_err-kind c =
    none_reads path_json _ c.from_residual-in_err-kind.result (search rules)
    (item_astray part_json (view c.args.tree.now) c.deref-item-items.result.now c.loop-item.item-index c.item-item.result
    (rw c.deref-item-items.ensures.value c.in_ok-as_array.ensures) c.loop-item-test.true c.item-item.is (c.in_err-kind.ensures {u = tt}))

-- an item is a component, and the path has it
pub loop-item-preserved : goal.loop-item-preserved
loop-item-preserved c =
    let parts = c.loop-item.invariant in
    let next = part c.in_ok-kind.kind c.in_ok-kind.text.now in (
      parts.0 ++ (next ∷ []),
      one_more part_json c.deref-item-items.result.now c.loop-item.item-index c.item-item.result parts.0 next
          c.loop-item-test.true c.item-item.is parts.1 (c.in_ok-kind.ensures {u = tt}),
      grown c.joined-path.result c.loop-item.path parts.0 next c.joined-path.ensures parts.2,
    )

-- no item is left
pub returns : goal.returns
returns c =
    let parts = c.loop-item.invariant in
    (parts.0, all_read part_json (view c.args.tree.now) c.deref-item-items.result.now c.loop-item.item-index parts.0 (rw c.deref-item-items.ensures.value c.in_ok-as_array.ensures) (search rules) parts.1, parts.2)
