use Rattle.std.proofs.Common.{rules, [], ◌∷◌, ◌++◌}
use Rattle.garde_json.specs.Form.{spelled}
use Rattle.garde_json.specs.Json.{part_json, path_json}
use Rattle.garde_report.specs.Part.{part}
use Rattle.garde_json.proofs.Listed.{left_is, more_is, end_is, none_reads, grown}
use Rattle.garde_json.proofs.path.path_in.Goals as goal

-- an item is no component
pub returns-in_err-kind : goal.returns-in_err-kind
returns-in_err-kind c =
    let parts = c.loop-item.invariant in
    none_reads (spelled path_json) _ c.from_residual-in_err-kind.result (search rules)
    (left_is part_json _ c.in-Some.item parts.0 c.loop-item.items _ c.in-Some.ensures.steps parts.1 (c.in_err-kind.ensures {u = tt}))

-- an item is a component, and the path has it
pub loop-item-preserved : goal.loop-item-preserved
loop-item-preserved c =
    let parts = c.loop-item.invariant in
    let next = part c.in_ok-kind.kind c.in_ok-kind.text.now in (
      parts.0 ++ (next ∷ []),
      more_is part_json _ c.in-Some.item parts.0 next c.loop-item.items _ c.in-Some.ensures.steps (c.in_ok-kind.ensures {u = tt}) parts.1,
      grown c.joined-path.result c.loop-item.path parts.0 next c.joined-path.ensures parts.2,
    )

-- no item is left
pub returns : goal.returns
returns c =
    let parts = c.loop-item.invariant in
    (parts.0, end_is part_json _ parts.0 c.loop-item.items c.in_default.ensures.steps.0 parts.1, parts.2)
