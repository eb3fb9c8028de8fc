use Rattle.std.proofs.Common.{◌+◌, ◌∷◌, [], map, drop, refl, sym, ap, ◌∙◌, subst, inl, inr}
use Rattle.std.proofs.lemmas.List.{map-append, nil_from_length}
use Rattle.json.specs.Tape.{node_token}
use Rattle.garde_report.specs.Part.{item_part}
use Rattle.garde_places.specs.Steps.{Spells, reached, before_name, IsTokenBy}
use Rattle.garde_places.proofs.Walking.{path_there}
use Rattle.garde_places.proofs.find.find_token.Goals as goal

pub returns-then-not-by_name-clause-value : goal.returns-then-not-by_name-clause-value
returns-then-not-by_name-clause-value c j spelled = subst (λ b. IsTokenBy b (map item_part c.args.way.now) j c.find.result) (sym c.if-not-by_name.true) (c.find.ensures.value j spelled)

pub returns-in_default-clause-value : goal.returns-in_default-clause-value
returns-in_default-clause-value c j spelled =
    let path = map item_part c.args.way.now in
    subst (λ b. IsTokenBy b path j 0) (sym c.if-not-by_name.false) (inr (ap (map item_part) (nil_from_length _ c.in_default.ensures.cases), refl))

pub returns-clause-value : goal.returns-clause-value
returns-clause-value c j spelled =
    let ts = map node_token c.args.nodes.now in
    let path = map item_part c.args.way.now in
    let before = map item_part c.in-Some.before.now in
    let last = c.in-Some.last.now in
    let r = reached before j in
    let found = c.find-found.ensures.value j spelled in
    let there = subst (λ n. Spells (drop n ts) r) (sym found) (path_there before j ts spelled) in
    let name = c.name_at.ensures.value r there ∙ ap (λ n. n + before_name last.1.now r) found in
    let whole = ap (map item_part) c.in-Some.ensures.cases.0 ∙ map-append item_part c.in-Some.before.now (last ∷ []) in
    subst (λ b. IsTokenBy b path j c.name_at.result) (sym c.if-not-by_name.false) (inl (before, item_part last, whole, name))
