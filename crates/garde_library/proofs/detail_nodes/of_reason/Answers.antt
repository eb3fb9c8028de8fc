use Rattle.std.proofs.Common.{[], Some, codes, subst}
use Rattle.std.proofs.lemmas.Result.{IfOk-weaker}
use Rattle.garde_library.specs.Checked.{details}
use Rattle.garde_library.specs.Nodes.{Spells}
use Rattle.garde_library.proofs.Adding.{status_400}
use Rattle.garde_library.proofs.detail_nodes.of_reason.Goals as goal

pub nodes_of-requires : goal.nodes_of-requires
nodes_of-requires c = status_400

pub returns : goal.returns
returns c = IfOk-weaker c.nodes_of.result _ _ (λ made is.
    subst (λ es. Spells [] made.room.items made.nodes.items (details (codes "the body is no JSON text") 400 (Some c.args.reason.now) es)) c.new-report.ensures is) c.nodes_of.ensures
