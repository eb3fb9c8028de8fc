use Rattle.std.proofs.Common.{map, drop, sym, ap, ◌∙◌, subst}
use Rattle.std.proofs.lemmas.List.{drop-drop}
use Rattle.json.specs.Tape.{node_token}
use Rattle.garde_places.specs.Steps.{SpellItems, SpellMembers, inside_spot}
use Rattle.garde_places.proofs.Walking.{members_of, items_of, no_inside, to_member, to_item, no_number}
use Rattle.garde_places.proofs.find.inside_at.Goals as goal

pub returns-in-Some-clause-value : goal.returns-in-Some-clause-value
returns-in-Some-clause-value c j h =
    let all = map node_token c.args.nodes.now in
    let i = c.args.at in
    let f = members_of (drop i all) j (sym c.if-is_object.true ∙ c.is_object.ensures j h) h in
    sym c.in-Some.is ∙ c.member.ensures.value f.0 (subst (λ ts. SpellMembers ts f.0) (drop-drop 1 i all) f.2) ∙ to_member i c.args.text.now f.0 ∙ ap (inside_spot i c.args.text.now) (sym f.1)

pub returns-in-None-clause-value : goal.returns-in-None-clause-value
returns-in-None-clause-value c j h =
    let all = map node_token c.args.nodes.now in
    let i = c.args.at in
    let f = members_of (drop i all) j (sym c.if-is_object.true ∙ c.is_object.ensures j h) h in
    sym c.in-None.is ∙ c.member.ensures.value f.0 (subst (λ ts. SpellMembers ts f.0) (drop-drop 1 i all) f.2) ∙ to_member i c.args.text.now f.0 ∙ ap (inside_spot i c.args.text.now) (sym f.1)

pub returns-then-not-is_array-clause-value : goal.returns-then-not-is_array-clause-value
returns-then-not-is_array-clause-value c j h =
    no_inside c.args.at c.args.text.now j (sym c.if-is_object.false ∙ c.is_object.ensures j h) (sym c.if-not-is_array.true ∙ c.is_array.ensures j h)

pub returns-in_default-clause-value : goal.returns-in_default-clause-value
returns-in_default-clause-value c j h =
    let all = map node_token c.args.nodes.now in
    let i = c.args.at in
    let f = items_of (drop i all) j (sym c.if-not-is_array.false ∙ c.is_array.ensures j h) h in
    no_number i c.args.text.now f.0 (sym c.in_default.is ∙ c.number.ensures) ∙ ap (inside_spot i c.args.text.now) (sym f.1)

pub returns-in-Some-item_at-clause-value : goal.returns-in-Some-item_at-clause-value
returns-in-Some-item_at-clause-value c j h =
    let all = map node_token c.args.nodes.now in
    let i = c.args.at in
    let f = items_of (drop i all) j (sym c.if-not-is_array.false ∙ c.is_array.ensures j h) h in
    c.in-Some-item_at.ensures.value f.0 (subst (λ ts. SpellItems ts f.0) (drop-drop 1 i all) f.2) ∙ to_item i c.in-Some-number.item c.args.text.now f.0 (sym c.in-Some-number.is ∙ c.number.ensures) ∙ ap (inside_spot i c.args.text.now) (sym f.1)

pub returns-in-None-item_at-clause-value : goal.returns-in-None-item_at-clause-value
returns-in-None-item_at-clause-value c j h =
    let all = map node_token c.args.nodes.now in
    let i = c.args.at in
    let f = items_of (drop i all) j (sym c.if-not-is_array.false ∙ c.is_array.ensures j h) h in
    c.in-None-item_at.ensures.value f.0 (subst (λ ts. SpellItems ts f.0) (drop-drop 1 i all) f.2) ∙ to_item i c.in-Some-number.item c.args.text.now f.0 (sym c.in-Some-number.is ∙ c.number.ensures) ∙ ap (inside_spot i c.args.text.now) (sym f.1)
