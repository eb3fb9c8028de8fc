use Rattle.std.proofs.Common.{[], sym, subst}
use Rattle.garde_library.specs.Nodes.{AreNodes, Spells}
use Rattle.garde_library.proofs.walk.nodes_of.Goals as goal

pub returns : goal.returns
returns c =
    let after = c.push_tree.new.self in
    subst (λ j. Spells c.args.body.now after.room.items after.nodes.items j) c.root.ensures
    (c.in_ok-push_tree.ensures.ok [] (subst (λ ns. AreNodes c.args.body.now c.new.result.items [] ns) (sym c.in_ok-with_capacity.ensures.items) tt))
