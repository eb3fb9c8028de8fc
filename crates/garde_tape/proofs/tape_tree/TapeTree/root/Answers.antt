use Rattle.std.proofs.Common.{sym, ap, ◌∙◌, arith, subst}
use Rattle.json.specs.Tape.{Linked}
use Rattle.garde_tape.specs.Reading.{json_of, HasTree}
use Rattle.garde_tape.proofs.Sizes.{tree_fits}
use Rattle.garde_tape.proofs.tape_tree.TapeTree.root.Goals as goal

pub invariant_of-result : goal.invariant_of-result
invariant_of-result c =
    let ts = c.args.tape.now in
    let tree : HasTree c.root-root.result = record {
      value = c.root-root.ensures.value;
      fits = tree_fits _ c.root-root.ensures.value (rw c.root-root.ensures.same (omega arith));
    } in
    record {
      linked = subst (λ ts. Linked ts 0 c.nodes.result.now) (sym c.nodes.ensures.tokens) c.nodes.ensures.links;
      tree = subst HasTree (c.root-root.ensures.same ∙ sym c.nodes.ensures.tokens) tree;
    }

pub returns : goal.returns
returns c = ap json_of c.nodes.ensures.tokens
