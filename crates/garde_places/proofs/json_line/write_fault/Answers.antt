use Rattle.std.proofs.Common.{ℕ, List, [], ◌∷◌, ◌++◌, codes, decimal, refl, ap, ◌∙◌}
use Rattle.json.specs.Token.{Token, begin_object, end_object, key, string, number}
use Rattle.garde_problem.specs.Coded.{message_parts}
use Rattle.garde_problem.specs.Escaped.{escaped_path_text}
use Rattle.garde_problem.specs.Pointer.{path_pointer}
use Rattle.garde_problem.specs.Problem.{AreWritten, parts_tokens}
use Rattle.garde_places.proofs.Tokens.{wrote, and_then, known_as, ended_parts}
use Rattle.garde_places.proofs.json_line.write_fault.Goals as goal

-- the tokens of the object, one part after another
pub returns : goal.returns
returns c =
    let f = c.args.fault.now in
    let member : List ℕ → Token → List Token = λ name t. key name ∷ t ∷ [] in
    let file = member (codes "file") (string c.args.file.now) in
    let path = member (codes "path") (string (escaped_path_text f.path.now)) in
    let pointer = member (codes "pointer") (string (path_pointer f.path.now)) in
    let line = member (codes "line") (number (decimal f.place.line)) in
    let column = member (codes "column") (number (decimal f.place.column)) in
    let parts = message_parts f.error.now in
    let begun : AreWritten (begin_object ∷ []) c.args.out.now c.begin_object.new.self = wrote _ _ _ _ refl c.in_ok-begin_object.ensures in
    let named : AreWritten file c.begin_object.new.self c.write_member.new.out = c.in_ok-write_member.ensures in
    let led : AreWritten path c.write_member.new.out c.write_path.new.out = c.in_ok-write_path.ensures in
    let pointed : AreWritten pointer c.write_path.new.out c.write_pointer.new.out = c.in_ok-write_pointer.ensures in
    let lined : AreWritten line c.write_pointer.new.out c.write_number.new.out = c.in_ok-write_number.ensures in
    let placed : AreWritten column c.write_number.new.out c.write_number-2.new.out = c.in_ok-write_number-2.ensures in
    let told : AreWritten (parts_tokens parts) c.write_number-2.new.out c.write_message.new.out =
    known_as _ _ _ _ (ap parts_tokens (c.of.ensures ∙ ap message_parts c.message.ensures)) c.in_ok-write_message.ensures in
    let ended : AreWritten (end_object ∷ []) c.write_message.new.out c.end_object.new.self = wrote _ _ _ _ refl c.in_ok-end_object.ensures in
    known_as _ _ _ _ (ap (λ tokens. begin_object ∷ (file ++ (path ++ (pointer ++ (line ++ (column ++ tokens)))))) (ended_parts parts))
    (and_then _ _ _ _ _ begun (and_then _ _ _ _ _ named (and_then _ _ _ _ _ led (and_then _ _ _ _ _ pointed
    (and_then _ _ _ _ _ lined (and_then _ _ _ _ _ placed (and_then _ _ _ _ _ told ended)))))))
