use Rattle.std.proofs.Common.{sym, subst}
use Rattle.garde_tape.specs.Node.{IsOf}
use Rattle.garde_tape.specs.Reading.{json_of}
use Rattle.garde_tape.specs.Walk.{tokens_at}
use Rattle.garde_tape.proofs.Nodes.{tree_is_of}
use Rattle.garde_tape.proofs.tape_tree.TapeTree.node.Goals as goal

pub returns : goal.returns
returns c =
    let a = c.self.inside in
    subst (λ j. IsOf j c.node_at.result) c.self.view_is (subst (IsOf (json_of (tokens_at a.nodes.now a.at))) (sym c.node_at.ensures.node) (tree_is_of a.nodes.now a.at c.self.invariant))
