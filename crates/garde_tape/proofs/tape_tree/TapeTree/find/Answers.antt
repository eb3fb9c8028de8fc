use Rattle.std.proofs.Common.{Some, option_map, sym, ap, ◌∙◌, subst, arith}
use Rattle.json.specs.Find.{as_object}
use Rattle.garde_tape.specs.Node.{IsOf}
use Rattle.garde_tape.specs.Read.{json_found}
use Rattle.garde_tape.specs.Reading.{json_of, member_list}
use Rattle.garde_tape.specs.Walk.{tokens_at}
use Rattle.garde_tape.proofs.Finding.{answer_at_start, no_object_answer}
use Rattle.garde_tape.proofs.Nodes.{members_opened, no_object, tree_is_of}
use Rattle.garde_tape.proofs.Reading.{members_of-found}
use Rattle.garde_tape.proofs.Sizes.{members_fit}
use Rattle.garde_tape.proofs.tape_tree.TapeTree.find.Goals as goal

pub returns-in_default : goal.returns-in_default
returns-in_default c =
    let a = c.self.inside in
    let of : IsOf c.args.self.now c.node_at.result = subst (λ j. IsOf j c.node_at.result) c.self.view_is (subst (IsOf (json_of (tokens_at a.nodes.now a.at))) (sym c.node_at.ensures.node) (tree_is_of a.nodes.now a.at c.self.invariant)) in
    no_object_answer c.args.name.now c.args.self.now (sym (no_object c.node_at.result c.args.self.now (λ x e. grind arith) of))

pub spot_from-requires : goal.spot_from-requires
spot_from-requires c =
    let a = c.self.inside in
    let v = c.self.invariant.tree.value in
    let f = members_opened a.nodes.now a.at c.in-Object.field-0 v.0 (sym c.node_at.ensures.node ∙ c.in-Object.is) v.1 in
    record {
      linked = c.self.invariant.linked;
      members = record {
        value = (f.0, f.2);
        fits = members_fit _ f.0 _ (json_found _ v.0 v.1 ∙ f.1) (members_of-found _ f.0 f.2) c.self.invariant.tree.fits;
      };
    }

pub returns-in-Nowhere : goal.returns-in-Nowhere
returns-in-Nowhere c =
    let a = c.self.inside in
    let v = c.self.invariant.tree.value in
    let f = members_opened a.nodes.now a.at c.in-Object.field-0 v.0 (sym c.node_at.ensures.node ∙ c.in-Object.is) v.1 in
    let all = ap (λ x. Some (member_list x)) (members_of-found _ f.0 f.2) ∙ sym (ap (λ j. option_map member_list (as_object j)) (sym c.self.view_is ∙ json_found _ v.0 v.1 ∙ f.1)) in
    sym (answer_at_start c.args.name.now c.args.self.now _ all ∙ c.in-Nowhere.ensures)

pub returns-in-Once : goal.returns-in-Once
returns-in-Once c =
    let a = c.self.inside in
    let v = c.self.invariant.tree.value in
    let f = members_opened a.nodes.now a.at c.in-Object.field-0 v.0 (sym c.node_at.ensures.node ∙ c.in-Object.is) v.1 in
    let all = ap (λ x. Some (member_list x)) (members_of-found _ f.0 f.2) ∙ sym (ap (λ j. option_map member_list (as_object j)) (sym c.self.view_is ∙ json_found _ v.0 v.1 ∙ f.1)) in
    sym (answer_at_start c.args.name.now c.args.self.now _ all ∙ c.in-Once.ensures.1)

pub returns-in-Repeated : goal.returns-in-Repeated
returns-in-Repeated c =
    let a = c.self.inside in
    let v = c.self.invariant.tree.value in
    let f = members_opened a.nodes.now a.at c.in-Object.field-0 v.0 (sym c.node_at.ensures.node ∙ c.in-Object.is) v.1 in
    let all = ap (λ x. Some (member_list x)) (members_of-found _ f.0 f.2) ∙ sym (ap (λ j. option_map member_list (as_object j)) (sym c.self.view_is ∙ json_found _ v.0 v.1 ∙ f.1)) in
    sym (answer_at_start c.args.name.now c.args.self.now _ all ∙ c.in-Repeated.ensures)
