use Rattle.std.proofs.Common.{◌+◌, map, drop, get_or, sym, ap, subst, arith, ⊎_elim}
use Rattle.std.proofs.lemmas.List.{get_or_default, length-map}
use Rattle.json.specs.Tape.{node_token, LinkAt}
use Rattle.json.specs.declared.tape.Node.TheVariants.{Object, Null}
use Rattle.garde_places.specs.Steps.{Spells}
use Rattle.garde_places.proofs.Walking.{here, alone, by_link}
use Rattle.garde_places.proofs.walk.after.Goals as goal

pub returns-in_default : goal.returns-in_default
returns-in_default c =
    let ns = c.args.nodes.now in
    let i = c.args.at in
    let n = get_or ns i (Object 0) in
    record {
      value = λ j h. ap (λ k. i + k) (sym (alone n (drop (i + 1) (map node_token ns)) j (λ a z. grind arith) (λ a z. grind arith) (subst (λ ts. Spells ts j) (here ns i (Object 0) c.requires.0) h)));
      later = omega arith;
    }

pub returns-in-Object-clause-value : goal.returns-in-Object-clause-value
returns-in-Object-clause-value c j h =
    let ns = c.args.nodes.now in
    let all = map node_token ns in
    let linked = subst (LinkAt all c.args.at) (get_or_default ns c.args.at Null (Object 0) c.requires.0) (c.requires.1 c.args.at (omega arith) c.requires.0) in
    by_link all c.args.at c.in-Object.end j (omega (arith, c.requires.0, length-map ns node_token)) (⊎_elim (λ is. subst (LinkAt all c.args.at) is linked) (λ is. subst (LinkAt all c.args.at) is linked) c.in-Object.is) h

pub returns-in-Object-clause-later : goal.returns-in-Object-clause-later
returns-in-Object-clause-later c =
    let ns = c.args.nodes.now in
    let all = map node_token ns in
    let linked = subst (LinkAt all c.args.at) (get_or_default ns c.args.at Null (Object 0) c.requires.0) (c.requires.1 c.args.at (omega arith) c.requires.0) in
    (⊎_elim (λ is. subst (LinkAt all c.args.at) is linked) (λ is. subst (LinkAt all c.args.at) is linked) c.in-Object.is).2

pub returns-in-Object-2-clause-value : goal.returns-in-Object-2-clause-value
returns-in-Object-2-clause-value c j h =
    let ns = c.args.nodes.now in
    let all = map node_token ns in
    let linked = subst (LinkAt all c.args.at) (get_or_default ns c.args.at Null (Object 0) c.requires.0) (c.requires.1 c.args.at (omega arith) c.requires.0) in
    by_link all c.args.at c.in-Object.end j (omega (arith, c.requires.0, length-map ns node_token)) (⊎_elim (λ is. subst (LinkAt all c.args.at) is linked) (λ is. subst (LinkAt all c.args.at) is linked) c.in-Object.is) h

pub returns-in-Object-2-clause-later : goal.returns-in-Object-2-clause-later
returns-in-Object-2-clause-later c =
    let ns = c.args.nodes.now in
    let all = map node_token ns in
    let linked = subst (LinkAt all c.args.at) (get_or_default ns c.args.at Null (Object 0) c.requires.0) (c.requires.1 c.args.at (omega arith) c.requires.0) in
    (⊎_elim (λ is. subst (LinkAt all c.args.at) is linked) (λ is. subst (LinkAt all c.args.at) is linked) c.in-Object.is).2
