use Rattle.std.proofs.Common.{map, drop, sym, ap, ◌∙◌, subst}
use Rattle.std.proofs.lemmas.List.{drop-drop}
use Rattle.json.specs.Tape.{node_token}
use Rattle.garde_places.specs.Steps.{SpellMembers, named_spot}
use Rattle.garde_places.proofs.Walking.{members_of, to_named}
use Rattle.garde_places.proofs.Naming.{no_name_there, not_among, name_there, name_missing}
use Rattle.garde_places.proofs.find.name_at.Goals as goal

pub returns-else-is_object-clause-value : goal.returns-else-is_object-clause-value
returns-else-is_object-clause-value c j h = no_name_there c.args.at c.args.name.now j (not_among c.args.at c.args.name.now j (sym c.if-is_object.false ∙ c.is_object.ensures j h))

pub returns-in-Some-clause-value : goal.returns-in-Some-clause-value
returns-in-Some-clause-value c j h =
    let all = map node_token c.args.nodes.now in
    let i = c.args.at in
    let f = members_of (drop i all) j (sym c.if-is_object.true ∙ c.is_object.ensures j h) h in
    let there = sym c.in-Some.is ∙ c.member.ensures.value f.0 (subst (λ ts. SpellMembers ts f.0) (drop-drop 1 i all) f.2) ∙ to_named i c.args.name.now f.0 ∙ ap (named_spot i c.args.name.now) (sym f.1) in
    c.saturating_sub.ensures ∙ name_there i c.in-Some.value c.args.name.now j there

pub returns-in-None-clause-value : goal.returns-in-None-clause-value
returns-in-None-clause-value c j h =
    let all = map node_token c.args.nodes.now in
    let i = c.args.at in
    let f = members_of (drop i all) j (sym c.if-is_object.true ∙ c.is_object.ensures j h) h in
    let there = sym c.in-None.is ∙ c.member.ensures.value f.0 (subst (λ ts. SpellMembers ts f.0) (drop-drop 1 i all) f.2) ∙ to_named i c.args.name.now f.0 ∙ ap (named_spot i c.args.name.now) (sym f.1) in
    no_name_there i c.args.name.now j (name_missing i c.args.name.now j there)
