use Rattle.std.proofs.Common.{◌∷◌, []}
use Rattle.std.proofs.lemmas.Result.{on_ok_weaker}
use Rattle.garde_library.specs.Nodes.{a_text}
use Rattle.garde_library.proofs.Adding.{then_are_added}
use Rattle.garde_library.proofs.detail_nodes.push_member.Goals as goal

pub returns : goal.returns
returns c = on_ok_weaker c.push_text-2.result (λ text.
    then_are_added (a_text c.args.name.now ∷ []) (a_text c.args.text.now ∷ []) c.args.walk.now c.push_text.new.walk c.push_text-2.new.walk c.in_ok-push_text.ensures text) c.push_text-2.ensures
