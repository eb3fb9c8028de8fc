use Rattle.std.proofs.Common.{List, ℕ, Option, Bor, option_map, subst}
use Rattle.garde_service.specs.Paths.{IsCut}
use Rattle.garde_service.proofs.Segments.{too_long, too_short}
use Rattle.garde_service.proofs.paths.+fits.Goals as goal

pub returns-in_default : goal.returns-in_default
returns-in_default t c =
    let long = subst (λ (r : Option (Bor (List ℕ))). IsCut c.args.pattern.now c.cut.result.0.now (option_map (λ rest. rest.now) r)) c.in_default.is-0 c.cut.ensures in
    let short = subst (λ (r : Option (Bor (List ℕ))). IsCut c.args.path.now c.cut-2.result.0.now (option_map (λ rest. rest.now) r)) c.in_default.is-1 c.cut-2.ensures in
    too_short c.args.pattern.now c.args.path.now c.cut.result.0.now c.cut-2.result.0.now c.in_default.field-0-0.now long short

pub returns-in_default-2 : goal.returns-in_default-2
returns-in_default-2 t c =
    let short = subst (λ (r : Option (Bor (List ℕ))). IsCut c.args.pattern.now c.cut.result.0.now (option_map (λ rest. rest.now) r)) c.in_default.is-0 c.cut.ensures in
    let long = subst (λ (r : Option (Bor (List ℕ))). IsCut c.args.path.now c.cut-2.result.0.now (option_map (λ rest. rest.now) r)) c.in_default.is-1 c.cut-2.ensures in
    too_long c.args.pattern.now c.args.path.now c.cut.result.0.now c.cut-2.result.0.now c.in_default.field-0-1.now short long
