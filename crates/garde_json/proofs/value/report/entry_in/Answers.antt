use Rattle.std.proofs.Common.{◌∙◌}
use Rattle.serde_json.specs.Data.{array, item, no_items}
use Rattle.garde_json.proofs.Listed.{fault_made}
use Rattle.garde_json.proofs.value.report.entry_in.Goals as goal

-- a path and an error
pub returns : goal.returns
returns c =
    let path = c.in_ok-path.ensures {u = tt} in
    let error = c.in_ok-error.ensures {u = tt} in
    let first = path.1 in
    let second = error.1 in (
      (path.0, error.0),
      c.in_ok-path_tree.ensures {u = tt} ∙ (λ i. array (item (first i) (item (second i) no_items))),
      fault_made c.both.result c.in_ok-path.path c.in_ok-error.error path.0 error.0 c.both.ensures path.2 error.2,
    )
