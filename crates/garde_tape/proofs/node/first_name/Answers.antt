use Rattle.std.proofs.Common.{◌+◌, ◌∷◌, get_or, sym, ap, ◌∙◌, subst, arith}
use Rattle.json.specs.Tape.{node_token}
use Rattle.json.specs.Find.{InMembers}
use Rattle.json.specs.declared.tape.Node.TheVariants.{Object}
use Rattle.json.proofs.Found.{members_go_on, members_close}
use Rattle.garde_tape.specs.Walk.{tokens_at}
use Rattle.garde_tape.proofs.Nodes.{here, members_within, no_key, value_within, rest_within, rest_first}
use Rattle.garde_tape.proofs.Reading.{members_of-found}
use Rattle.garde_tape.proofs.node.first_name.Goals as goal

pub bounds-0 : goal.bounds-0
bounds-0 c =
    let v = c.requires.members.value in
    let within = members_within c.args.nodes.now c.args.at v.0 v.1 in
    rest_within c.args.nodes.now c.args.rest.now c.args.at 0 c.requires.rest (omega (arith, within))

pub returns-in-Key : goal.returns-in-Key
returns-in-Key c =
    let ns = c.args.nodes.now in
    let i = c.args.at in
    let v = c.requires.members.value in
    let is = rest_first ns c.args.rest.now i c.requires.rest ∙ c.in-Key.is in
    let named = here ns i (members_within ns i v.0 v.1) ∙ ap (λ n. node_token n ∷ tokens_at ns (i + 1)) is in
    let f = members_go_on c.in-Key.name.now _ v.0 (subst (λ ts. InMembers ts v.0) named v.1) in
    record {
      depth = f.0;
      json = f.1;
      after = f.2;
      others = f.3;
      value = f.4;
      members = f.6;
      is = members_of-found _ v.0 v.1 ∙ f.5;
      next = value_within ns (i + 1) (f.1, (f.0, f.2, f.4));
    }

pub returns-in_default : goal.returns-in_default
returns-in_default c =
    let ns = c.args.nodes.now in
    let i = c.args.at in
    let v = c.requires.members.value in
    let n = get_or ns i (Object 0) in
    let same = rest_first ns c.args.rest.now i c.requires.rest in
    members_of-found _ v.0 v.1 ∙ members_close (node_token n) _ v.0 (no_key n (λ s e. c.in_default.not-Key s (sym same ∙ e))) (subst (λ ts. InMembers ts v.0) (here ns i (members_within ns i v.0 v.1)) v.1)
