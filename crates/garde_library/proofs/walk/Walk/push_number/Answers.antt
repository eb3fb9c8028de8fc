use Rattle.std.proofs.Common.{◌≡◌, Some, None, sym, ap, ◌∙◌, w64, to_z, of_z, rules}
use Rattle.std.specs.Prelude.{option_and_then, unsigned_abs}
use Rattle.garde_tape.specs.Number.{signed_of, unsigned_of}
use Rattle.std.proofs.lemmas.Result.{on_ok_weaker}
use Rattle.std.proofs.lemmas.Int.{to_z-of_z}
use Rattle.garde_library.specs.Nodes.{a_number, whole_kind}
use Rattle.garde_library.proofs.Growing.{one_added, plain_added, signed_node, unsigned_node, other_node}
use Rattle.garde_library.proofs.walk.Walk.push_number.Goals as goal

pub returns-in-Some-clause-ok : goal.returns-in-Some-clause-ok
returns-in-Some-clause-ok c =
    let s = c.args.self.now in
    let t = c.args.text.now in
    let after = c.push_plain.new.self in
    let signed : signed_of 64 t ≡ Some c.in-Some.number = ap (option_and_then (signed_of 64)) (sym c.requires) ∙ sym c.in-Some.ensures in
    let same : to_z w64 (of_z w64 c.in-Some.number) ≡ c.in-Some.number = to_z-of_z w64 c.in-Some.number (search rules) in
    on_ok_weaker c.push_plain.result (λ f. plain_added s.body.now s.room.items after.room.items s.nodes.items after.nodes.items (a_number t) f.0 f.3 c.push_plain.ensures.room
    (signed_node s.body.now after.room.items t c.in-Some.number f.0 signed (f.1 ∙ c.whole_kind.ensures ∙ ap whole_kind same) (f.2 ∙ c.unsigned_abs.ensures.value ∙ ap unsigned_abs same))) c.push_plain.ensures.ok

pub returns-in-Some-as_u64-clause-ok : goal.returns-in-Some-as_u64-clause-ok
returns-in-Some-as_u64-clause-ok c =
    let s = c.args.self.now in
    let t = c.args.text.now in
    let after = c.push_plain-in-Some-as_u64.new.self in
    let none : signed_of 64 t ≡ None = ap (option_and_then (signed_of 64)) (sym c.requires) ∙ sym c.in_default.ensures in
    let unsigned : unsigned_of 64 t ≡ Some c.in-Some-as_u64.number = ap (option_and_then (unsigned_of 64)) (sym c.requires) ∙ sym c.in-Some-as_u64.ensures in
    on_ok_weaker c.push_plain-in-Some-as_u64.result (λ f. plain_added s.body.now s.room.items after.room.items s.nodes.items after.nodes.items (a_number t) f.0 f.3 c.push_plain-in-Some-as_u64.ensures.room
    (unsigned_node s.body.now after.room.items t c.in-Some-as_u64.number f.0 none unsigned f.1 f.2)) c.push_plain-in-Some-as_u64.ensures.ok

pub returns-clause-ok : goal.returns-clause-ok
returns-clause-ok c =
    let s = c.args.self.now in
    let t = c.args.text.now in
    let after = c.push_found.new.self in
    let none : signed_of 64 t ≡ None = ap (option_and_then (signed_of 64)) (sym c.requires) ∙ sym c.in_default.ensures in
    let neither : unsigned_of 64 t ≡ None = ap (option_and_then (unsigned_of 64)) (sym c.requires) ∙ sym c.in_default-as_u64.ensures in
    on_ok_weaker c.push_found.result (λ f. one_added s.body.now s.room.items f.1 after.room.items s.nodes.items after.nodes.items (a_number t) f.0 f.3 f.4
    (other_node s.body.now after.room.items t f.0 none neither f.2 f.5)) c.push_found.ensures.ok
