use Rattle.std.proofs.lemmas.Result.{on_ok_weaker}
use Rattle.garde_library.specs.Nodes.{a_text}
use Rattle.garde_library.proofs.Growing.{one_added}
use Rattle.garde_library.proofs.walk.Walk.push_text.Goals as goal

pub returns-clause-ok : goal.returns-clause-ok
returns-clause-ok c =
    let s = c.args.self.now in
    let after = c.push_found.new.self in
    on_ok_weaker c.push_found.result (λ f. one_added s.body.now s.room.items f.1 after.room.items s.nodes.items after.nodes.items (a_text c.args.text.now) f.0 f.3 f.4 (f.2, f.5)) c.push_found.ensures.ok
