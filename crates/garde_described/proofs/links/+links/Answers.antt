use Rattle.std.proofs.Common.{rules, refl, ap, sym, arith, false, length, ◌∙◌}
use Rattle.garde_report.specs.Part.{key_part, part_of}
use Rattle.garde.proofs.Author.{visited_full}
use Rattle.garde.specs.Visits.{under}
use Rattle.garde_described.specs.Faults.{in_turn, numbered}
use Rattle.garde_described.specs.Links.{item_links, keyword_links, links, member_links, one_link}
use Rattle.garde_described.proofs.Walks.{item_end, item_stop, item_then, turn_end, turn_stop, turn_then}
use Rattle.garde_described.proofs.Ends.{links_next, links_nothing, links_zero}
use Rattle.garde_described.proofs.Lemmas.{of_none, of_some, told_as, told_under}
use Rattle.garde_described.proofs.links.+links.Goals as goal

pub check_keywords-loop-name-preserved : goal.check_keywords-loop-name-preserved
check_keywords-loop-name-preserved g t c = λ after new answer rest.
    c.loop-name.invariant after new answer (turn_then (one_link (links (g.H.FormI18n.form_text c.args.h.now) c.args.root.now c.args.left false) (g.H.FormI18n.form_text c.args.h.now) c.args.root.now c.args.is_whole c.args.schema.now) _ _ _ c.in-Some.ensures.steps c.check_named.ensures (search rules) rest)

pub check_keywords-returns-in_err-check_named : goal.check_keywords-returns-in_err-check_named
check_keywords-returns-in_err-check_named g t c =
    c.loop-name.invariant _ _ _ (turn_stop (one_link (links (g.H.FormI18n.form_text c.args.h.now) c.args.root.now c.args.left false) (g.H.FormI18n.form_text c.args.h.now) c.args.root.now c.args.is_whole c.args.schema.now) _ _ _ c.in-Some.ensures.steps c.check_named.ensures (search rules) c.from_residual.ensures.0)

pub check_keywords-returns : goal.check_keywords-returns
check_keywords-returns g t c = c.loop-name.invariant _ _ _ (turn_end (one_link (links (g.H.FormI18n.form_text c.args.h.now) c.args.root.now c.args.left false) (g.H.FormI18n.form_text c.args.h.now) c.args.root.now c.args.is_whole c.args.schema.now) _ c.in_default.ensures.steps.0)

pub check_each-loop-name-preserved : goal.check_each-loop-name-preserved
check_each-loop-name-preserved g t c = λ after new answer rest.
    c.loop-name.invariant after new answer (turn_then (member_links (links (g.H.FormI18n.form_text c.args.h.now) c.args.root.now c.args.left false)) _ _ _ c.in-Some.ensures.steps (told_as (ap (λ p. under p (links (g.H.FormI18n.form_text c.args.h.now) c.args.root.now c.args.left false c.in-Some.schema)) c.key.ensures) c.check_under.ensures) (search rules) rest)

pub check_each-returns-in_err-check_under : goal.check_each-returns-in_err-check_under
check_each-returns-in_err-check_under g t c =
    c.loop-name.invariant _ _ _ (turn_stop (member_links (links (g.H.FormI18n.form_text c.args.h.now) c.args.root.now c.args.left false)) _ _ _ c.in-Some.ensures.steps (told_as (ap (λ p. under p (links (g.H.FormI18n.form_text c.args.h.now) c.args.root.now c.args.left false c.in-Some.schema)) c.key.ensures) c.check_under.ensures) (search rules) c.from_residual.ensures.0)

pub check_each-returns : goal.check_each-returns
check_each-returns g t c = c.loop-name.invariant _ _ _ (turn_end (member_links (links (g.H.FormI18n.form_text c.args.h.now) c.args.root.now c.args.left false)) _ c.in_default.ensures.steps.0)

pub check_places-loop-schema-preserved : goal.check_places-loop-schema-preserved
check_places-loop-schema-preserved g t c = (
  λ after new answer rest. c.loop-schema.invariant.0 after new answer (item_then (item_links (links (g.H.FormI18n.form_text c.args.h.now) c.args.root.now c.args.left false)) c.loop-schema.index _ _ _ c.in-Some.ensures.steps (told_as (ap (λ p. under p (links (g.H.FormI18n.form_text c.args.h.now) c.args.root.now c.args.left false c.in-Some.schema)) c.index-place.ensures) c.check_under.ensures) (search rules) rest),
  omega (arith, c.loop-schema.invariant.1, ap length c.in-Some.ensures.steps),
)

pub check_places-returns-in_err-check_under : goal.check_places-returns-in_err-check_under
check_places-returns-in_err-check_under g t c = c.loop-schema.invariant.0 _ _ _ (item_stop (item_links (links (g.H.FormI18n.form_text c.args.h.now) c.args.root.now c.args.left false)) c.loop-schema.index _ _ _ c.in-Some.ensures.steps (told_as (ap (λ p. under p (links (g.H.FormI18n.form_text c.args.h.now) c.args.root.now c.args.left false c.in-Some.schema)) c.index-place.ensures) c.check_under.ensures) (search rules) c.from_residual.ensures.0)

pub check_places-returns : goal.check_places-returns
check_places-returns g t c = c.loop-schema.invariant.0 _ _ _ (item_end (item_links (links (g.H.FormI18n.form_text c.args.h.now) c.args.root.now c.args.left false)) c.loop-schema.index _ c.in_default.ensures.steps.0)

pub check_under-returns-in_err-push : goal.check_under-returns-in_err-push
check_under-returns-in_err-push g t c = visited_full (part_of c.args.component) _ refl c.in_err-push.ensures.err c.in_err-push.ensures.full c.from_residual.ensures.0

pub check_under-returns : goal.check_under-returns
check_under-returns g t c = told_under (part_of c.args.component) _ refl c.push.ensures.valid c.in_ok-push.ensures.ok c.check_links-told.ensures c.pop.ensures

pub check_named-returns-in_err-push : goal.check_named-returns-in_err-push
check_named-returns-in_err-push g t c = visited_full (key_part c.args.name.now) _ refl c.in_err-push.ensures.err c.in_err-push.ensures.full c.from_residual.ensures.0

pub check_named-returns : goal.check_named-returns
check_named-returns g t c =
    told_under (key_part c.args.name.now) _ c.key.ensures c.push.ensures.valid c.in_ok-push.ensures.ok
    (told_as (ap (λ k. keyword_links (links (g.H.FormI18n.form_text c.args.h.now) c.args.root.now c.args.left false) (g.H.FormI18n.form_text c.args.h.now) c.args.root.now c.args.is_whole c.args.schema.now k c.args.value.now) c.of-keyword.ensures) c.check_keyword-told.ensures) c.pop.ensures

pub check_keyword-returns-in-Enum : goal.check_keyword-returns-in-Enum
check_keyword-returns-in-Enum g t c = links_nothing (links (g.H.FormI18n.form_text c.args.h.now) c.args.root.now c.args.left false) (g.H.FormI18n.form_text c.args.h.now) c.args.root.now c.args.is_whole c.args.schema.now c.args.keyword c.args.value.now c.in-Enum.is

pub check_members-returns-in-None : goal.check_members-returns-in-None
check_members-returns-in-None g t c = of_none (in_turn (member_links (links (g.H.FormI18n.form_text c.args.h.now) c.args.root.now c.args.left false))) _ (sym c.members.ensures.value ∙ c.in-None.is)

pub check_items-returns-in-None : goal.check_items-returns-in-None
check_items-returns-in-None g t c = of_none (numbered (item_links (links (g.H.FormI18n.form_text c.args.h.now) c.args.root.now c.args.left false)) 0) _ (sym c.items.ensures.value ∙ c.in-None.is)

pub check_links-returns-then-left-eq0 : goal.check_links-returns-then-left-eq0
check_links-returns-then-left-eq0 g t c = links_zero (g.H.FormI18n.form_text c.args.h.now) c.args.root.now c.args.left c.args.is_whole c.args.schema.now (search rules)

pub check_links-returns-in-Some : goal.check_links-returns-in-Some
check_links-returns-in-Some g t c =
    links_next (g.H.FormI18n.form_text c.args.h.now) c.args.root.now c.args.left c.args.is_whole c.args.schema.now (search rules)
    (of_some _ _ _ (sym c.members.ensures.value ∙ c.in-Some.is) c.check_keywords.ensures)

pub check_links-returns-in-None : goal.check_links-returns-in-None
check_links-returns-in-None g t c =
    links_next (g.H.FormI18n.form_text c.args.h.now) c.args.root.now c.args.left c.args.is_whole c.args.schema.now (search rules)
    (of_none _ _ (sym c.members.ensures.value ∙ c.in-None.is))
