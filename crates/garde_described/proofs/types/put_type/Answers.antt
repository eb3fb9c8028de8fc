use Rattle.std.proofs.Common.{ap, sym}
use Rattle.garde_described.proofs.Lemmas.{told_as}
use Rattle.garde_described.specs.Keywords.{no_type}
use Rattle.garde_described.proofs.types.put_type.Goals as goal

pub returns-in-Number : goal.returns-in-Number
returns-in-Number g c = told_as (ap (λ w. no_type (g.H.FormI18n.form_text c.args.h.now) w c.args.tree.now) (sym c.in-Number.is)) c.ask.ensures
