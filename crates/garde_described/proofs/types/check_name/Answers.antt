use Rattle.std.proofs.Common.{ap, sym, ◌∙◌}
use Rattle.std.specs.Prelude.{not}
use Rattle.garde.proofs.Author.{visited_unless, visited_when}
use Rattle.garde_described.proofs.Lemmas.{of_none, of_some}
use Rattle.garde_described.specs.Keywords.{has_type, typed}
use Rattle.garde_described.proofs.types.check_name.Goals as goal

pub returns-then-has : goal.returns-then-has
returns-then-has g c =
    of_some (typed (g.H.FormI18n.form_text c.args.h.now) c.args.tree.now) _ _ (sym c.of.ensures ∙ c.in-Some.is)
    (visited_unless (not (has_type c.in-Some.one c.args.tree.now)) _ (ap not (sym c.has.ensures ∙ c.if-has.true)))

pub returns-else-has : goal.returns-else-has
returns-else-has g c =
    of_some (typed (g.H.FormI18n.form_text c.args.h.now) c.args.tree.now) _ _ (sym c.of.ensures ∙ c.in-Some.is)
    (visited_when (not (has_type c.in-Some.one c.args.tree.now)) _ (ap not (sym c.has.ensures ∙ c.if-has.false)) c.put_type.ensures)

pub returns-in-None : goal.returns-in-None
returns-in-None g c = of_none (typed (g.H.FormI18n.form_text c.args.h.now) c.args.tree.now) _ (sym c.of.ensures ∙ c.in-None.is)
