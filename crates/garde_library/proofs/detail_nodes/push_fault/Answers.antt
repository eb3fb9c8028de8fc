use Rattle.std.proofs.Common.{◌∷◌, [], codes, ap, ◌∙◌}
use Rattle.std.proofs.lemmas.Result.{on_ok_weaker}
use Rattle.json.specs.Json.{object, string, member}
use Rattle.garde_problem.specs.Coded.{message_parts, seen}
use Rattle.garde_problem.specs.Pointer.{path_pointer}
use Rattle.garde_problem.specs.Problem.{parts_members}
use Rattle.garde_library.specs.Nodes.{AreAdded, a_text, an_object, marks}
use Rattle.garde_library.proofs.Adding.{as_added, then_are_added, fault_marks}
use Rattle.garde_library.proofs.detail_nodes.push_fault.Goals as goal

-- the nodes of the object, one member after another
pub returns : goal.returns
returns c =
    let m = seen c.of-message.result in
    let p = path_pointer c.args.path.now in
    let begun : AreAdded (an_object 4 ∷ []) c.args.walk.now c.push_object.new.walk = c.in_ok-push_object.ensures in
    let pointed : AreAdded (a_text (codes "pointer") ∷ a_text p ∷ []) c.push_object.new.walk c.push_pointer.new.walk = c.in_ok-push_pointer.ensures in
    let detail : AreAdded (a_text (codes "detail") ∷ a_text m.detail ∷ []) c.push_pointer.new.walk c.push_member.new.walk = c.in_ok-push_member.ensures in
    let code : AreAdded (a_text (codes "code") ∷ a_text m.code ∷ []) c.push_member.new.walk c.push_member-2.new.walk = c.in_ok-push_member-2.ensures in
    let name : AreAdded (a_text (codes "params") ∷ []) c.push_member-2.new.walk c.push_text.new.walk = c.in_ok-push_text.ensures in
    let same = ap (λ q. marks (object (member (codes "pointer") (string p) (parts_members q)))) (c.of-message.ensures ∙ ap message_parts c.message.ensures) in
    on_ok_weaker c.push_params.result (λ params. as_added _ _ c.args.walk.now c.push_params.new.walk (fault_marks p m ∙ same)
    (then_are_added _ _ _ _ _ begun (then_are_added _ _ _ _ _ pointed (then_are_added _ _ _ _ _ detail (then_are_added _ _ _ _ _ code (then_are_added _ _ _ _ _ name params)))))) c.push_params.ensures
