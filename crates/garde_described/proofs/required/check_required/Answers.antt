use Rattle.std.proofs.Common.{sym, ◌∙◌}
use Rattle.garde_described.proofs.Lemmas.{of_none, of_some}
use Rattle.garde_described.specs.Faults.{in_turn, required_asks}
use Rattle.garde_described.specs.Keywords.{membered, of}
use Rattle.garde_described.proofs.required.check_required.Goals as goal

pub returns-in-None : goal.returns-in-None
returns-in-None g c = of_none (λ names. of (λ _. in_turn (required_asks (g.H.FormI18n.form_text c.args.h.now) c.args.tree.now) names) (membered c.args.tree.now)) _ (sym c.items.ensures.value ∙ c.in-None.is)

pub returns-in-None-members : goal.returns-in-None-members
returns-in-None-members g c = of_some (λ names. of (λ _. in_turn (required_asks (g.H.FormI18n.form_text c.args.h.now) c.args.tree.now) names) (membered c.args.tree.now)) _ _ (sym c.items.ensures.value ∙ c.in-Some.is) (of_none (λ _. in_turn (required_asks (g.H.FormI18n.form_text c.args.h.now) c.args.tree.now) c.in-Some.names) _ (sym c.members.ensures.value ∙ c.in-None-members.is))
