use Rattle.std.proofs.lemmas.Result.{on_ok_weaker}
use Rattle.garde_library.specs.Nodes.{a_list}
use Rattle.garde_library.proofs.Adding.{plain_is_added}
use Rattle.garde_library.proofs.detail_nodes.push_list.Goals as goal

pub returns : goal.returns
returns c = on_ok_weaker c.push_plain.result (λ f.
    plain_is_added (a_list c.args.count) c.args.walk.now c.push_plain.new.self f.0 f.3 c.push_plain.ensures.body c.push_plain.ensures.room (f.1, f.2)) c.push_plain.ensures.ok
