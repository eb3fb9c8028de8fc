use Rattle.std.proofs.Common.{ap, sym, ◌∙◌}
use Rattle.garde_described.proofs.Lemmas.{told_as}
use Rattle.garde_described.specs.Keywords.{no_type_among}
use Rattle.garde_described.proofs.types.put_types.Goals as goal

pub returns-in-None : goal.returns-in-None
returns-in-None g c = told_as (ap (λ w. no_type_among (g.H.FormI18n.form_text c.args.h.now) w c.args.tree.now) (sym c.in-None.is ∙ c.beside_null.ensures)) c.ask.ensures
