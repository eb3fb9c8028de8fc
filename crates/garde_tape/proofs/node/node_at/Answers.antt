use Rattle.std.proofs.Common.{arith}
use Rattle.garde_tape.proofs.Nodes.{value_within}
use Rattle.garde_tape.proofs.node.node_at.Goals as goal

pub bounds-nodes-at : goal.bounds-nodes-at
bounds-nodes-at c = value_within c.args.nodes.now c.args.at c.requires

pub returns-clause-within : goal.returns-clause-within
returns-clause-within c = let within = value_within c.args.nodes.now c.args.at c.requires in (within, omega (arith, within))

pub offset_bounds-nodes-at : goal.offset_bounds-nodes-at
offset_bounds-nodes-at c = let within = value_within c.args.nodes.now c.args.at c.requires in omega (arith, within)
