use Rattle.std.proofs.Common.{ap, sym, ◌∙◌}
use Rattle.std.specs.Prelude.{not}
use Rattle.garde.specs.Visits.{when}
use Rattle.garde_schema.specs.Forms.{refused}
use Rattle.garde_schema.specs.declared.fault.FormFault.TheVariants.{NotOneOf}
use Rattle.garde_described.proofs.Lemmas.{of_none, of_some, told_as}
use Rattle.garde_described.specs.Keywords.{among_asks}
use Rattle.garde_described.proofs.same.check_enum.Goals as goal

pub returns-in-Some : goal.returns-in-Some
returns-in-Some g c =
    of_some (λ vs. among_asks (g.H.FormI18n.form_text c.args.h.now) vs c.args.tree.now) _ _ (sym c.items.ensures.value ∙ c.in-Some.is)
    (told_as (ap (λ b. when (not b) (refused (g.H.FormI18n.form_text c.args.h.now NotOneOf))) c.is_among-is_known.ensures) c.put_unless.ensures)

pub returns-in-None : goal.returns-in-None
returns-in-None g c = of_none (λ vs. among_asks (g.H.FormI18n.form_text c.args.h.now) vs c.args.tree.now) _ (sym c.items.ensures.value ∙ c.in-None.is)
