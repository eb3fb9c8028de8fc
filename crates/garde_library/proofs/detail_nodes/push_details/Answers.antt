use Rattle.std.proofs.Common.{◌∷◌, [], codes, decimal, subst}
use Rattle.std.specs.Prelude.{option_map}
use Rattle.std.proofs.lemmas.Result.{on_ok_weaker}
use Rattle.garde_library.specs.Nodes.{AreAdded, a_number, a_text, an_object, members_with, sentence_marks}
use Rattle.garde_library.proofs.Adding.{as_added, then_are_added, details_marks}
use Rattle.garde_library.proofs.detail_nodes.push_details.Goals as goal

-- the nodes of the object, one member after another
pub returns : goal.returns
returns c =
    let d = option_map (λ s. s.now) c.args.detail in
    let begun : AreAdded (an_object (members_with d) ∷ []) c.args.walk.now c.push_object.new.walk = subst (λ n. AreAdded (an_object n ∷ []) c.args.walk.now c.push_object.new.walk) c.count_members-count.ensures c.in_ok-push_object.ensures in
    let titled : AreAdded (a_text (codes "title") ∷ a_text c.args.title.now ∷ []) c.push_object.new.walk c.push_member.new.walk = c.in_ok-push_member.ensures in
    let named : AreAdded (a_text (codes "status") ∷ []) c.push_member.new.walk c.push_text.new.walk = c.in_ok-push_text.ensures in
    let status : AreAdded (a_number (decimal c.args.status) ∷ []) c.push_text.new.walk c.push_status.new.walk = c.in_ok-push_status.ensures in
    let sentence : AreAdded (sentence_marks d) c.push_status.new.walk c.push_sentence.new.walk = c.in_ok-push_sentence.ensures in
    let errors : AreAdded (a_text (codes "errors") ∷ []) c.push_sentence.new.walk c.push_text-2.new.walk = c.in_ok-push_text-2.ensures in
    on_ok_weaker c.push_faults.result (λ faults. as_added _ _ c.args.walk.now c.push_faults.new.walk (details_marks c.args.title.now c.args.status d c.args.report.now)
    (then_are_added _ _ _ _ _ begun (then_are_added _ _ _ _ _ titled (then_are_added _ _ _ _ _ named (then_are_added _ _ _ _ _ status
    (then_are_added _ _ _ _ _ sentence (then_are_added _ _ _ _ _ errors faults))))))) c.push_faults.ensures
