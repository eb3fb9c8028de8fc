use Rattle.std.proofs.Common.{◌∙◌, ◌++◌, ap, List, ℕ, Option, Bor, option_map, subst}
use Rattle.garde_form.specs.WebForm.{field_texts}
use Rattle.garde_service.specs.Paths.{IsCut}
use Rattle.garde_service.proofs.Segments.{last_parameter}
use Rattle.garde_service.proofs.paths.+add_parameters.Goals as goal

pub returns-in_default : goal.returns-in_default
returns-in_default t c =
    let long = subst (λ (r : Option (Bor (List ℕ))). IsCut c.args.pattern.now c.cut.result.0.now (option_map (λ rest. rest.now) r)) c.in_default.is-0 c.cut.ensures in
    let short = subst (λ (r : Option (Bor (List ℕ))). IsCut c.args.path.now c.cut-2.result.0.now (option_map (λ rest. rest.now) r)) c.in_default.is-1 c.cut-2.ensures in
    c.in_ok-add_parameter.ensures
    ∙ ap (λ (more : List (List ℕ × List ℕ)). field_texts c.args.found.now.items ++ more) (last_parameter c.args.pattern.now c.args.path.now c.cut.result.0.now c.cut-2.result.0.now c.in_default.field-0-0.now long short)
