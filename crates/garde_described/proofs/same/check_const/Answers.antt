use Rattle.std.proofs.Common.{ap}
use Rattle.std.specs.Prelude.{not}
use Rattle.garde.specs.Visits.{when}
use Rattle.garde_schema.specs.Forms.{refused}
use Rattle.garde_schema.specs.declared.fault.FormFault.TheVariants.{NotOneOf}
use Rattle.garde_described.proofs.Lemmas.{told_as}
use Rattle.garde_described.proofs.same.check_const.Goals as goal

pub returns : goal.returns
returns g c = told_as (ap (λ b. when (not b) (refused (g.H.FormI18n.form_text c.args.h.now NotOneOf))) c.is_same.ensures) c.put_unless.ensures
