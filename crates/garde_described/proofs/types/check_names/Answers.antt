use Rattle.std.proofs.Common.{ap, sym, ◌∙◌}
use Rattle.std.specs.List.{list_any}
use Rattle.std.specs.Prelude.{not, option_and_then}
use Rattle.garde.proofs.Author.{visited_unless, visited_when}
use Rattle.garde_described.proofs.Lemmas.{of_none, of_some, told_as}
use Rattle.garde_described.specs.Keywords.{beside_null, has_type_named, no_type_among, typed_among}
use Rattle.garde_described.proofs.types.check_names.Goals as goal

pub returns-then-is_among : goal.returns-then-is_among
returns-then-is_among g c =
    of_some (typed_among (g.H.FormI18n.form_text c.args.h.now) c.args.tree.now) _ _ (sym c.items.ensures.value ∙ c.in-Some.is)
    (visited_unless (not (list_any (λ name. has_type_named c.args.tree.now name) c.in-Some.names)) _ (ap not (sym c.is_among.ensures ∙ c.if-is_among.true)))

pub returns-else-is_among : goal.returns-else-is_among
returns-else-is_among g c =
    of_some (typed_among (g.H.FormI18n.form_text c.args.h.now) c.args.tree.now) _ _ (sym c.items.ensures.value ∙ c.in-Some.is)
    (visited_when (not (list_any (λ name. has_type_named c.args.tree.now name) c.in-Some.names)) _ (ap not (sym c.is_among.ensures ∙ c.if-is_among.false))
    (told_as (ap (λ o. no_type_among (g.H.FormI18n.form_text c.args.h.now) (option_and_then beside_null o) c.args.tree.now) (sym c.items.ensures.value ∙ c.in-Some.is)) c.put_types.ensures))

pub returns-in-None : goal.returns-in-None
returns-in-None g c = of_none (typed_among (g.H.FormI18n.form_text c.args.h.now) c.args.tree.now) _ (sym c.items.ensures.value ∙ c.in-None.is)
