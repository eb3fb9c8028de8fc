use Rattle.garde_tape.proofs.Nodes.{members_within}
use Rattle.garde_tape.proofs.node.spot_of.Goals as goal

pub nodes_from-from_there-requires : goal.nodes_from-from_there-requires
nodes_from-from_there-requires c =
    let v = c.requires.members.value in
    members_within c.args.nodes.now c.args.from v.0 v.1
