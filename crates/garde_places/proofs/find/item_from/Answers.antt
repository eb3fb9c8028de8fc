use Rattle.std.proofs.Common.{◌≡◌, suc, ◌+◌, ◌-◌, ◌∷◌, map, drop, get_or, sym, ap, ◌∙◌, subst, arith}
use Rattle.std.proofs.lemmas.List.{drop_all, length-map}
use Rattle.json.specs.Tape.{node_token}
use Rattle.json.specs.declared.tape.Node.TheVariants.{Object}
use Rattle.garde_places.specs.Steps.{SpellItems, item_spot}
use Rattle.garde_places.proofs.Walking.{here, no_end, items_some, items_end, items_more, item_none, item_spot_more, item_spot_first, past_value}
use Rattle.garde_places.proofs.find.item_from.Goals as goal

pub returns-then-here-nodes-clause-value : goal.returns-then-here-nodes-clause-value
returns-then-here-nodes-clause-value c js h =
    let now = c.loop-here.invariant.holds js h in
    let all = map node_token c.args.nodes.now in
    items_some now.0 (subst (λ ts. SpellItems ts now.0) (drop_all c.loop-here.here all (omega (arith, length-map c.args.nodes.now node_token))) now.1)

pub returns-in-EndArray-clause-value : goal.returns-in-EndArray-clause-value
returns-in-EndArray-clause-value c js h =
    let now = c.loop-here.invariant.holds js h in
    let ns = c.args.nodes.now in
    let i = c.loop-here.here in
    let rest = drop (i + 1) (map node_token ns) in
    let first = here ns i (Object 0) (omega arith) ∙ ap (λ n. node_token n ∷ rest) c.in-EndArray.is in
    let none = items_end rest now.0 (subst (λ ts. SpellItems ts now.0) first now.1) in
    let left = c.args.index - c.loop-here.passed in
    let sum : c.loop-here.passed + left ≡ c.args.index = omega (arith, c.loop-here.invariant.earlier) in
    item_none i left ∙ ap (item_spot i left) (sym none) ∙ sym (now.2 left) ∙ ap (λ n. item_spot c.args.mark.first n js) sum

pub returns-then-passed-index : goal.returns-then-passed-index
returns-then-passed-index c = record {
  value = λ js h.
      let now = c.loop-here.invariant.holds js h in
      let ns = c.args.nodes.now in
      let i = c.loop-here.here in
      let n = get_or ns i (Object 0) in
      let f = items_more (node_token n) (drop (i + 1) (map node_token ns)) now.0 (no_end n c.in_default.not-EndArray) (subst (λ ts. SpellItems ts now.0) (here ns i (Object 0) (omega arith)) now.1) in
      let sum : c.loop-here.passed + 0 ≡ c.args.index = omega (arith, c.if-passed-index.true) in
      item_spot_first i f.0 f.1 ∙ ap (item_spot i 0) (sym f.3) ∙ sym (now.2 0) ∙ ap (λ n. item_spot c.args.mark.first n js) sum;
  holds = λ js h.
      let now = c.loop-here.invariant.holds js h in
      (now.0, now.1, λ n. ap (λ k. item_spot c.args.mark.first (k + n) js) (sym c.if-passed-index.true) ∙ now.2 n);
}

pub loop-here-preserved : goal.loop-here-preserved
loop-here-preserved c = record {
  holds = λ js h.
      let now = c.loop-here.invariant.holds js h in
      let ns = c.args.nodes.now in
      let all = map node_token ns in
      let i = c.loop-here.here in
      let n = get_or ns i (Object 0) in
      let first = here ns i (Object 0) (omega arith) in
      let f = items_more (node_token n) (drop (i + 1) all) now.0 (no_end n c.in_default.not-EndArray) (subst (λ ts. SpellItems ts now.0) first now.1) in
      let spelled = first ∙ f.4 in
      let next = c.after-here.ensures.value f.0 (_, spelled) in (
        f.1,
        (f.2, ap (λ k. drop k all) next ∙ past_value all i f.0 _ spelled),
        λ m.
            let sum : c.loop-here.passed + 1 + m ≡ c.loop-here.passed + suc m = omega arith in
            ap (λ k. item_spot c.args.mark.first k js) sum ∙ now.2 (suc m) ∙ ap (item_spot i (suc m)) f.3 ∙ item_spot_more i m f.0 f.1 ∙ ap (λ k. item_spot k m f.1) (sym next),
      );
  earlier = omega arith;
}
