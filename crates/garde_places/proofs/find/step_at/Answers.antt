use Rattle.std.proofs.Common.{map, subst, arith, ◌∙◌}
use Rattle.std.proofs.lemmas.List.{drop_all, length-map}
use Rattle.json.specs.Tape.{node_token}
use Rattle.garde_places.specs.Steps.{Spells}
use Rattle.garde_places.proofs.Walking.{not_nothing, stays, leads}
use Rattle.garde_places.proofs.find.step_at.Goals as goal

pub returns-then-at-nodes-clause-value : goal.returns-then-at-nodes-clause-value
returns-then-at-nodes-clause-value c j h =
    let ns = c.args.nodes.now in
    not_nothing j (subst (λ ts. Spells ts j) (drop_all c.args.at (map node_token ns) (omega (arith, c.if-at-nodes.true, length-map ns node_token))) h)

pub returns-in-None-clause-value : goal.returns-in-None-clause-value
returns-in-None-clause-value c j h = stays c.args.at _ _ j c.in-None.is

pub returns-in-Key-clause-value : goal.returns-in-Key-clause-value
returns-in-Key-clause-value c j h = c.inside_at.ensures.value j h ∙ leads c.args.at _ _ j c.in-Key.is
