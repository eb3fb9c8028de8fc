use Rattle.std.proofs.Common.{ap, arith, option_copied}
use Rattle.std.proofs.lemmas.Grind.{common_steps}
use Rattle.garde_catalog.proofs.Cutting.{shorter}
use Rattle.garde_catalog.proofs.SoFar.{asked, element_more}
use Rattle.garde_catalog.proofs.language.Language.place_asked.Goals as goal

pub loop-rest-preserved : goal.loop-rest-preserved
loop-rest-preserved c =
    element_more c.args.field.now c.args.offered.now c.in-Some.text.now c.split_once.result.0.now _ _ _ _
    (ap (λ o. option_copied o) c.in-Some.is) c.split_once.ensures.before c.split_once.ensures.after c.with_element-best.ensures c.loop-rest.invariant

pub loop-rest-smaller : goal.loop-rest-smaller
loop-rest-smaller c = grind (arith, common_steps, shorter)

pub returns : goal.returns
returns c = asked c.args.field.now c.args.offered.now _ c.loop-rest.best (ap (λ o. option_copied o) c.in_default.is) c.loop-rest.invariant
