use Rattle.std.proofs.Common.{[], ◌∷◌, ◌++◌, refl, sym, ap, ◌∙◌}
use Rattle.json.specs.Token.{Token}
use Rattle.garde_json.specs.Json.{part_json, path_json}
use Rattle.garde_report.specs.Part.{part}
use Rattle.garde_json.proofs.Listed.{grown}
use Rattle.garde_json.proofs.Taken.{goes_on, goes_end, goes_astray, list_astray, none_next}
use Rattle.garde_json.proofs.stream.next_path.Goals as goal

-- neither a component nor the end is next
pub returns-in_err-kind : goal.returns-in_err-kind
returns-in_err-kind c =
    let parts = c.components.invariant in
    let test = c.components-test.ensures {u = tt} in
    none_next path_json c.args.reader.now c.next_component.new.reader c.from_residual.result c.from_residual.ensures
    (list_astray part_json c.args.reader.now c.opens_list.new.reader (c.if-not-opens_list.ensures {u = tt})
    (goes_astray part_json parts.0 c.opens_list.new.reader c.components.reader parts.1 test.taken
    (λ x rest is. c.in_err-kind.ensures {u = tt} x rest (test.kept refl ∙ is))))

-- a component is next, and the path has it
pub components-preserved : goal.components-preserved
components-preserved c =
    let parts = c.components.invariant in
    let test = c.components-test.ensures {u = tt} in
    let next = part c.in_ok-kind.kind c.in_ok-kind.text.now in (
      parts.0 ++ (next ∷ []),
      goes_on part_json parts.0 next c.opens_list.new.reader c.components.reader c.next_component.new.reader parts.1 (sym (test.kept refl) ∙ c.in_ok-kind.ensures {u = tt}),
      grown c.joined-path.result c.components.path parts.0 next c.joined-path.ensures parts.2,
    )

-- the end is next
pub returns : goal.returns
returns c =
    let parts = c.components.invariant in
    let test = c.components-test.ensures {u = tt} in (
      parts.0,
      c.if-not-opens_list.ensures {u = tt} ∙ ap (λ l. Token.begin_array ∷ l) (goes_end part_json parts.0 c.opens_list.new.reader c.components.reader c.ends_list.new.reader parts.1 test.taken),
      parts.2,
    )
