use Rattle.garde_library.proofs.Adding.{status_422}
use Rattle.garde_library.proofs.detail_nodes.nodes_of_details.Goals as goal

pub nodes_of-requires : goal.nodes_of-requires
nodes_of-requires c = status_422

pub nodes_of-requires-in-Err-First : goal.nodes_of-requires-in-Err-First
nodes_of-requires-in-Err-First c = status_422
