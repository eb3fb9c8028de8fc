use Rattle.std.proofs.Common.{◌+◌, ◌∷◌, map, drop, get_or, ap, ◌∙◌, subst, arith}
use Rattle.json.specs.Tape.{node_token}
use Rattle.json.specs.declared.tape.Node.TheVariants.{Object}
use Rattle.garde_places.specs.Steps.{Spells}
use Rattle.garde_places.proofs.Walking.{here, starts_array, not_array}
use Rattle.garde_places.proofs.find.is_array.Goals as goal

pub returns-in-Array : goal.returns-in-Array
returns-in-Array c j h =
    let ns = c.args.nodes.now in
    let i = c.args.at in
    let rest = drop (i + 1) (map node_token ns) in
    let first = here ns i (Object 0) (omega arith) ∙ ap (λ n. node_token n ∷ rest) c.in-Array.is in
    starts_array _ rest j (subst (λ ts. Spells ts j) first h)

pub returns-in_default : goal.returns-in_default
returns-in_default c j h =
    let ns = c.args.nodes.now in
    let i = c.args.at in
    let n = get_or ns i (Object 0) in
    not_array n (drop (i + 1) (map node_token ns)) j (λ a z. grind arith) (subst (λ ts. Spells ts j) (here ns i (Object 0) (omega arith)) h)
