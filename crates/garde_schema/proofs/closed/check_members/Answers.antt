use Rattle.garde_schema.proofs.Lemmas.{unknown_of, unknown_none}
use Rattle.garde_schema.proofs.closed.check_members.Goals as goal

pub returns-in-Some : goal.returns-in-Some
returns-in-Some g c = unknown_of (λ name. g.M.Members.names c.args.named.now name) (g.H.FormI18n.form_text c.args.h.now) c.args.object.now _ c.in-Some.is c.members.ensures.value c.check_names.ensures

pub returns-in-None : goal.returns-in-None
returns-in-None g c = unknown_none (λ name. g.M.Members.names c.args.named.now name) (g.H.FormI18n.form_text c.args.h.now) c.args.object.now c.in-None.is c.members.ensures.value
