use Rattle.std.proofs.Common.{◌≡◌, ◌+◌, ◌∷◌, ℕ, true, false, Option, Some, None, option_map, sym, ap, ◌∙◌, subst, arith}
use Rattle.std.specs.Prelude.{IfSome}
use Rattle.std.specs.Str.{bytes_eq}
use Rattle.json.specs.Json.{Json}
use Rattle.json.specs.Find.{BeginsWith}
use Rattle.garde_tape.specs.Look.{answer_from}
use Rattle.garde_tape.specs.Reading.{json_of, members_of, member_list, HasTree, HasMembers}
use Rattle.garde_tape.specs.Read.{json_found}
use Rattle.garde_tape.specs.Walk.{tokens_at}
use Rattle.garde_tape.proofs.Finding.{at_hit, at_miss}
use Rattle.garde_tape.proofs.Reading.{members_of-found}
use Rattle.garde_tape.proofs.Sizes.{member_fits}
use Rattle.garde_tape.proofs.node.spot_in.Goals.{then-eq+else-is_some, else-eq}
use Rattle.garde_tape.proofs.node.spot_in.Goals as goal

pub loop-key-preserved : goal.loop-key-preserved
loop-key-preserved c =
    let l = c.loop-key in
    let ns = c.args.nodes.now in
    let name = c.args.name.now in
    let here = tokens_at ns (l.at + 1) in
    let key = c.in-Some.key.now in
    let m = c.in-Some.ensures in
    let begins : BeginsWith here m.json = (m.depth, m.after, m.value) in
    let found = json_found here m.json begins in
    let sizes = member_fits _ key m.json (json_of here) m.others (members_of m.after) m.is found (members_of-found m.after m.others m.members) l.invariant.left.members.fits in
    let tree : HasTree here = record { value = (m.json, begins); fits = sizes.0 } in
    let others : HasMembers m.after = record { value = (m.others, m.members); fits = sizes.1 } in
    let next : m.after ≡ tokens_at ns c.pass-at.result = c.pass-at.ensures.value m.depth m.json m.after m.value in
    let rest = sym (members_of-found m.after m.others m.members) ∙ ap members_of next in
    let first : Option ℕ → Option Json = λ o. option_map (λ i. json_of (tokens_at ns i)) o in
    let start = l.invariant.answer ∙ ap (λ ms. answer_from name (first l.first) (member_list ms)) m.is in
    let end = ap (λ ms. answer_from name (first c.if-eq.first) (member_list ms)) rest in
    elim c.if-eq.branch [
      | then-eq+else-is_some w ↦
          let same : bytes_eq key name ≡ true = grind arith in
          let none : l.first ≡ None = grind arith in
          record {
            rest = c.pass-at.ensures.rest;
            left = record { linked = l.invariant.left.linked; members = subst HasMembers next others };
            tree = subst (λ o. IfSome o (λ i. HasTree (tokens_at ns i))) (sym w.first-is) tree;
            answer = start
                ∙ ap (λ o. answer_from name (first o) ((key, m.json) ∷ member_list m.others)) none
                ∙ at_hit name key m.json (member_list m.others) same
                ∙ ap (λ j. answer_from name (Some j) (member_list m.others)) (sym found)
                ∙ ap (λ o. answer_from name (first o) (member_list m.others)) (sym w.first-is)
                ∙ end;
          }
      | else-eq w ↦
          let other : bytes_eq key name ≡ false = grind arith in
          record {
            rest = c.pass-at.ensures.rest;
            left = record { linked = l.invariant.left.linked; members = subst HasMembers next others };
            tree = subst (λ o. IfSome o (λ i. HasTree (tokens_at ns i))) (sym w.first-is) l.invariant.tree;
            answer = start
                ∙ at_miss name key m.json (first l.first) (member_list m.others) other
                ∙ ap (λ o. answer_from name (first o) (member_list m.others)) (sym w.first-is)
                ∙ end;
          }
    ]
