use Rattle.std.proofs.Common.{[], ◌∷◌, ◌++◌, codes, refl, ap, ◌∙◌}
use Rattle.json.specs.Token.{begin_object, end_object, key, string}
use Rattle.garde_problem.specs.Coded.{message_parts}
use Rattle.garde_problem.specs.Pointer.{path_pointer}
use Rattle.garde_problem.specs.Problem.{AreWritten, parts_tokens}
use Rattle.garde_problem.proofs.Tokens.{one_token, then_tokens, as_tokens, closed_parts}
use Rattle.garde_problem.proofs.problem.write_fault.Goals as goal

-- the tokens of the object, one part after another
pub returns : goal.returns
returns c =
    let pointer = key (codes "pointer") ∷ string (path_pointer c.args.path.now) ∷ [] in
    let parts = message_parts c.args.error.now in
    let begun : AreWritten (begin_object ∷ []) c.args.out.now c.begin_object.new.self = one_token _ _ _ _ refl c.in_ok-begin_object.ensures in
    let pointed : AreWritten pointer c.begin_object.new.self c.write_pointer.new.out = c.in_ok-write_pointer.ensures in
    let told : AreWritten (parts_tokens parts) c.write_pointer.new.out c.write_message.new.out =
    as_tokens _ _ _ _ (ap parts_tokens (c.of.ensures ∙ ap message_parts c.message.ensures)) c.in_ok-write_message.ensures in
    let ended : AreWritten (end_object ∷ []) c.write_message.new.out c.end_object.new.self = one_token _ _ _ _ refl c.in_ok-end_object.ensures in
    as_tokens _ _ _ _ (ap (λ tokens. begin_object ∷ (pointer ++ tokens)) (closed_parts parts))
    (then_tokens _ _ _ _ _ begun (then_tokens _ _ _ _ _ pointed (then_tokens _ _ _ _ _ told ended)))
