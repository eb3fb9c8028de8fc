use Rattle.garde_library.proofs.Adding.{all_added}
use Rattle.garde_library.proofs.detail_nodes.nodes_of.Goals as goal

pub returns : goal.returns
returns c = all_added _ _ _ c.in_ok-push_details.ensures c.in_ok-with_capacity.ensures.items
