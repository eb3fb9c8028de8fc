use Rattle.std.proofs.Common.{decimal, pos, ◌∙◌}
use Rattle.std.proofs.lemmas.Result.{on_ok_weaker}
use Rattle.garde_library.specs.Nodes.{a_number}
use Rattle.garde_library.proofs.Adding.{plain_is_added}
use Rattle.garde_library.proofs.Growing.{signed_node}
use Rattle.garde_library.proofs.detail_nodes.push_status.Goals as goal

pub returns : goal.returns
returns c =
    let s = c.args.walk.now in
    let n = c.args.status in
    let after = c.push_plain.new.self in
    on_ok_weaker c.push_plain.result (λ f. plain_is_added (a_number (decimal n)) s after f.0 f.3 c.push_plain.ensures.body c.push_plain.ensures.room
    (signed_node s.body.now after.room.items (decimal n) (pos n) f.0 c.requires f.1 (f.2 ∙ c.from.ensures))) c.push_plain.ensures.ok
