use Rattle.std.proofs.Common.{rules, refl, ap, sym, arith, length, true, ◌∙◌, Some, None}
use Rattle.std.specs.Prelude.{codes, not, nat_le, option_map, unwrap_or, if◌then◌else◌}
use Rattle.garde_report.specs.Part.{key_part, part_of}
use Rattle.garde.proofs.Author.{visited_full, visited_none, visited_unless, visited_when}
use Rattle.garde.specs.Visits.{under, when}
use Rattle.garde_schema.specs.Forms.{refused}
use Rattle.garde_schema.specs.declared.fault.FormFault.TheVariants.{Unknown}
use Rattle.garde_described.specs.Keywords.{keyword_of, listed, of}
use Rattle.garde_described.specs.Faults.{asks, by_place, definition_of, described_items, faults, in_turn, is_described, item_asks, member_asks, member_of, numbered, other_asks, properties_asks, target_of}
use Rattle.garde_described.proofs.Walks.{asks_nothing, faults_next, faults_zero, member_is, turn_then, turn_stop, turn_end, item_then, item_stop, item_end, place_then, place_stop, place_short, place_end}
use Rattle.garde_described.proofs.Lemmas.{of_none, of_some, told_as, told_under}
use Rattle.garde_described.proofs.check.+check.Goals as goal

pub check_keywords-loop-name-preserved : goal.check_keywords-loop-name-preserved
check_keywords-loop-name-preserved g t c = λ after new answer rest.
    c.loop-name.invariant after new answer (turn_then (λ m. asks (faults (g.H.FormI18n.form_text c.args.h.now) c.args.root.now c.args.left) (g.H.FormI18n.form_text c.args.h.now) c.args.root.now c.args.schema.now (keyword_of m.0) m.1 c.args.tree.now) _ _ _ c.in-Some.ensures.steps (told_as (ap (λ k. asks (faults (g.H.FormI18n.form_text c.args.h.now) c.args.root.now c.args.left) (g.H.FormI18n.form_text c.args.h.now) c.args.root.now c.args.schema.now k c.in-Some.value c.args.tree.now) c.of-keyword.ensures) c.check_keyword.ensures) (search rules) rest)

pub check_keywords-returns-in_err-check_keyword : goal.check_keywords-returns-in_err-check_keyword
check_keywords-returns-in_err-check_keyword g t c =
    c.loop-name.invariant _ _ _ (turn_stop (λ m. asks (faults (g.H.FormI18n.form_text c.args.h.now) c.args.root.now c.args.left) (g.H.FormI18n.form_text c.args.h.now) c.args.root.now c.args.schema.now (keyword_of m.0) m.1 c.args.tree.now) _ _ _ c.in-Some.ensures.steps (told_as (ap (λ k. asks (faults (g.H.FormI18n.form_text c.args.h.now) c.args.root.now c.args.left) (g.H.FormI18n.form_text c.args.h.now) c.args.root.now c.args.schema.now k c.in-Some.value c.args.tree.now) c.of-keyword.ensures) c.check_keyword.ensures) (search rules) c.from_residual.ensures.0)

pub check_keywords-returns : goal.check_keywords-returns
check_keywords-returns g t c = c.loop-name.invariant _ _ _ (turn_end (λ m. asks (faults (g.H.FormI18n.form_text c.args.h.now) c.args.root.now c.args.left) (g.H.FormI18n.form_text c.args.h.now) c.args.root.now c.args.schema.now (keyword_of m.0) m.1 c.args.tree.now) _ c.in_default.ensures.steps.0)

pub check_each-loop-schema-preserved : goal.check_each-loop-schema-preserved
check_each-loop-schema-preserved g t c = λ after new answer rest.
    c.loop-schema.invariant after new answer (turn_then (λ x. faults (g.H.FormI18n.form_text c.args.h.now) c.args.root.now c.args.left x c.args.tree.now) _ _ _ c.in-Some.ensures.steps c.check.ensures (search rules) rest)

pub check_each-returns-in_err-check : goal.check_each-returns-in_err-check
check_each-returns-in_err-check g t c =
    c.loop-schema.invariant _ _ _ (turn_stop (λ x. faults (g.H.FormI18n.form_text c.args.h.now) c.args.root.now c.args.left x c.args.tree.now) _ _ _ c.in-Some.ensures.steps c.check.ensures (search rules) c.from_residual.ensures.0)

pub check_each-returns : goal.check_each-returns
check_each-returns g t c = c.loop-schema.invariant _ _ _ (turn_end (λ x. faults (g.H.FormI18n.form_text c.args.h.now) c.args.root.now c.args.left x c.args.tree.now) _ c.in_default.ensures.steps.0)

pub check_described-loop-name-preserved : goal.check_described-loop-name-preserved
check_described-loop-name-preserved g t c = λ after new answer rest.
    c.loop-name.invariant after new answer (turn_then (properties_asks (faults (g.H.FormI18n.form_text c.args.h.now) c.args.root.now c.args.left) (g.H.FormI18n.form_text c.args.h.now) c.args.tree.now) _ _ _ c.in-Some.ensures.steps (told_as (ap (λ f. member_asks (g.H.FormI18n.form_text c.args.h.now) (key_part c.in-Some.name.now) (faults (g.H.FormI18n.form_text c.args.h.now) c.args.root.now c.args.left c.in-Some.schema) f) c.find.ensures) c.check_member.ensures) (search rules) rest)

pub check_described-returns-in_err-check_member : goal.check_described-returns-in_err-check_member
check_described-returns-in_err-check_member g t c =
    c.loop-name.invariant _ _ _ (turn_stop (properties_asks (faults (g.H.FormI18n.form_text c.args.h.now) c.args.root.now c.args.left) (g.H.FormI18n.form_text c.args.h.now) c.args.tree.now) _ _ _ c.in-Some.ensures.steps (told_as (ap (λ f. member_asks (g.H.FormI18n.form_text c.args.h.now) (key_part c.in-Some.name.now) (faults (g.H.FormI18n.form_text c.args.h.now) c.args.root.now c.args.left c.in-Some.schema) f) c.find.ensures) c.check_member.ensures) (search rules) c.from_residual.ensures.0)

pub check_described-returns : goal.check_described-returns
check_described-returns g t c = c.loop-name.invariant _ _ _ (turn_end (properties_asks (faults (g.H.FormI18n.form_text c.args.h.now) c.args.root.now c.args.left) (g.H.FormI18n.form_text c.args.h.now) c.args.tree.now) _ c.in_default.ensures.steps.0)

pub check_undescribed-loop-name-preserved : goal.check_undescribed-loop-name-preserved
check_undescribed-loop-name-preserved g t c = λ after new answer rest.
    c.loop-name.invariant after new answer (turn_then (other_asks (faults (g.H.FormI18n.form_text c.args.h.now) c.args.root.now c.args.left) c.args.known.now c.args.value.now) _ _ _ c.in-Some.ensures.steps c.check_other.ensures (search rules) rest)

pub check_undescribed-returns-in_err-check_other : goal.check_undescribed-returns-in_err-check_other
check_undescribed-returns-in_err-check_other g t c =
    c.loop-name.invariant _ _ _ (turn_stop (other_asks (faults (g.H.FormI18n.form_text c.args.h.now) c.args.root.now c.args.left) c.args.known.now c.args.value.now) _ _ _ c.in-Some.ensures.steps c.check_other.ensures (search rules) c.from_residual.ensures.0)

pub check_undescribed-returns : goal.check_undescribed-returns
check_undescribed-returns g t c = c.loop-name.invariant _ _ _ (turn_end (other_asks (faults (g.H.FormI18n.form_text c.args.h.now) c.args.root.now c.args.left) c.args.known.now c.args.value.now) _ c.in_default.ensures.steps.0)

pub check_rest-loop-item-preserved : goal.check_rest-loop-item-preserved
check_rest-loop-item-preserved g t c = (
  λ after new answer rest. c.loop-item.invariant.0 after new answer (item_then (item_asks (faults (g.H.FormI18n.form_text c.args.h.now) c.args.root.now c.args.left) c.args.value.now c.args.first) c.loop-item.index _ _ _ c.in-Some.ensures.steps c.check_item.ensures (search rules) rest),
  omega (arith, c.loop-item.invariant.1, ap length c.in-Some.ensures.steps),
)

pub check_rest-returns-in_err-check_item : goal.check_rest-returns-in_err-check_item
check_rest-returns-in_err-check_item g t c = c.loop-item.invariant.0 _ _ _ (item_stop (item_asks (faults (g.H.FormI18n.form_text c.args.h.now) c.args.root.now c.args.left) c.args.value.now c.args.first) c.loop-item.index _ _ _ c.in-Some.ensures.steps c.check_item.ensures (search rules) c.from_residual.ensures.0)

pub check_rest-returns : goal.check_rest-returns
check_rest-returns g t c = c.loop-item.invariant.0 _ _ _ (item_end (item_asks (faults (g.H.FormI18n.form_text c.args.h.now) c.args.root.now c.args.left) c.args.value.now c.args.first) c.loop-item.index _ c.in_default.ensures.steps.0)

pub check_under-returns-in_err-push : goal.check_under-returns-in_err-push
check_under-returns-in_err-push g t c = visited_full (part_of c.args.component) _ refl c.in_err-push.ensures.err c.in_err-push.ensures.full c.from_residual.ensures.0

pub check_under-returns : goal.check_under-returns
check_under-returns g t c = told_under (part_of c.args.component) _ refl c.push.ensures.valid c.in_ok-push.ensures.ok c.check-told.ensures c.pop.ensures

pub check-returns-then-left-eq0 : goal.check-returns-then-left-eq0
check-returns-then-left-eq0 g t c = faults_zero (g.H.FormI18n.form_text c.args.h.now) c.args.root.now c.args.left c.args.schema.now c.args.tree.now (search rules) c.ask.ensures

pub check-returns-in-Some : goal.check-returns-in-Some
check-returns-in-Some g t c = faults_next (g.H.FormI18n.form_text c.args.h.now) c.args.root.now c.args.left c.args.schema.now c.args.tree.now _ (search rules) (sym c.members.ensures.value ∙ c.in-Some.is) c.check_keywords.ensures

pub check-returns-in-None : goal.check-returns-in-None
check-returns-in-None g t c = faults_next (g.H.FormI18n.form_text c.args.h.now) c.args.root.now c.args.left c.args.schema.now c.args.tree.now None (search rules) (sym c.members.ensures.value ∙ c.in-None.is) (told_as (ap (λ b. when (not b) (refused (g.H.FormI18n.form_text c.args.h.now Unknown))) (c.unwrap_or-holds.ensures ∙ ap (λ o. unwrap_or o true) c.as_bool.ensures)) c.put_unless.ensures)

pub check_keyword-returns-in-Definitions : goal.check_keyword-returns-in-Definitions
check_keyword-returns-in-Definitions g t c = asks_nothing (faults (g.H.FormI18n.form_text c.args.h.now) c.args.root.now c.args.left) (g.H.FormI18n.form_text c.args.h.now) c.args.root.now c.args.schema.now c.args.keyword c.args.value.now c.args.tree.now c.in-Definitions.is

pub check_reference-returns-in-None : goal.check_reference-returns-in-None
check_reference-returns-in-None g t c = of_none (λ text. of (λ x. faults (g.H.FormI18n.form_text c.args.h.now) c.args.root.now c.args.left x c.args.tree.now) (target_of c.args.root.now text)) _ (sym c.as_str.ensures ∙ ap (option_map (λ s. s.now)) c.in-None.is)

pub check_target-returns-in-None : goal.check_target-returns-in-None
check_target-returns-in-None g t c = of_none (λ x. faults (g.H.FormI18n.form_text c.args.h.now) c.args.root.now c.args.left x c.args.tree.now) _ (ap (λ b. if b then Some c.args.root.now else definition_of c.args.root.now c.args.text.now) (sym c.eq.ensures ∙ c.if-eq.false) ∙ (sym c.definition.ensures ∙ c.in-None.is))

pub check_all-returns-in-None : goal.check_all-returns-in-None
check_all-returns-in-None g t c = of_none (λ ss. in_turn (λ x. faults (g.H.FormI18n.form_text c.args.h.now) c.args.root.now c.args.left x c.args.tree.now) ss) _ (sym c.items.ensures.value ∙ c.in-None.is)

pub check_properties-returns-in-None : goal.check_properties-returns-in-None
check_properties-returns-in-None g t c = of_none (λ ms. in_turn (properties_asks (faults (g.H.FormI18n.form_text c.args.h.now) c.args.root.now c.args.left) (g.H.FormI18n.form_text c.args.h.now) c.args.tree.now) ms) _ (sym c.members.ensures.value ∙ c.in-None.is)

pub check_member-returns-in-Missing : goal.check_member-returns-in-Missing
check_member-returns-in-Missing g t c = member_is (g.H.FormI18n.form_text c.args.h.now) (key_part c.args.name.now) (faults (g.H.FormI18n.form_text c.args.h.now) c.args.root.now c.args.left c.args.schema.now) (sym c.in-Missing.is) visited_none

pub check_others-returns-in-Some : goal.check_others-returns-in-Some
check_others-returns-in-Some g t c =
    of_some (λ ms. in_turn (other_asks (faults (g.H.FormI18n.form_text c.args.h.now) c.args.root.now c.args.left) (member_of (codes "properties") c.args.schema.now) c.args.value.now) ms) _ _ (sym c.members.ensures.value ∙ c.in-Some.is)
    (told_as (ap (λ d. in_turn (other_asks (faults (g.H.FormI18n.form_text c.args.h.now) c.args.root.now c.args.left) d c.args.value.now) c.in-Some.members) c.member_of-known.ensures) c.check_undescribed.ensures)

pub check_others-returns-in-None : goal.check_others-returns-in-None
check_others-returns-in-None g t c = of_none (λ ms. in_turn (other_asks (faults (g.H.FormI18n.form_text c.args.h.now) c.args.root.now c.args.left) (member_of (codes "properties") c.args.schema.now) c.args.value.now) ms) _ (sym c.members.ensures.value ∙ c.in-None.is)

pub check_other-returns-then-is_described : goal.check_other-returns-then-is_described
check_other-returns-then-is_described g t c = visited_unless (not (is_described c.args.known.now c.args.name.now)) _ (ap not (sym c.is_described.ensures ∙ c.if-is_described.true))

pub check_other-returns : goal.check_other-returns
check_other-returns g t c =
    visited_when (not (is_described c.args.known.now c.args.name.now)) _ (ap not (sym c.is_described.ensures ∙ c.if-is_described.false))
    (told_as (ap (λ p. under p (faults (g.H.FormI18n.form_text c.args.h.now) c.args.root.now c.args.left c.args.value.now c.args.member.now)) c.key-place.ensures) c.check_under.ensures)

pub check_items-returns-in-None : goal.check_items-returns-in-None
check_items-returns-in-None g t c = of_none (λ js. numbered (item_asks (faults (g.H.FormI18n.form_text c.args.h.now) c.args.root.now c.args.left) c.args.value.now (described_items c.args.schema.now)) 0 js) _ (sym c.items.ensures.value ∙ c.in-None.is)

pub check_item-returns-then-first-index : goal.check_item-returns-then-first-index
check_item-returns-then-first-index g t c =
    visited_when (nat_le c.args.first c.args.index) _ (search rules)
    (told_as (ap (λ p. under p (faults (g.H.FormI18n.form_text c.args.h.now) c.args.root.now c.args.left c.args.value.now c.args.item.now)) c.index-place.ensures) c.check_under.ensures)

pub check_item-returns : goal.check_item-returns
check_item-returns g t c = visited_unless (nat_le c.args.first c.args.index) _ (search rules)

pub check_prefix-returns-in-None : goal.check_prefix-returns-in-None
check_prefix-returns-in-None g t c = of_none (λ ss. of (λ js. by_place (faults (g.H.FormI18n.form_text c.args.h.now) c.args.root.now c.args.left) 0 ss js) (listed c.args.tree.now)) _ (sym c.items.ensures.value ∙ c.in-None.is)

pub check_prefix-returns-in-None-items : goal.check_prefix-returns-in-None-items
check_prefix-returns-in-None-items g t c = of_some (λ ss. of (λ js. by_place (faults (g.H.FormI18n.form_text c.args.h.now) c.args.root.now c.args.left) 0 ss js) (listed c.args.tree.now)) _ _ (sym c.items.ensures.value ∙ c.in-Some.is) (of_none (λ js. by_place (faults (g.H.FormI18n.form_text c.args.h.now) c.args.root.now c.args.left) 0 c.in-Some.schemas js) _ (sym c.items-in-Some.ensures.value ∙ c.in-None-items.is))

pub check_places-returns-in_default-next : goal.check_places-returns-in_default-next
check_places-returns-in_default-next g t c = c.loop-schema.invariant.0 _ _ _ (place_short (faults (g.H.FormI18n.form_text c.args.h.now) c.args.root.now c.args.left) c.loop-schema.index _ _ _ _ c.in-Some.ensures.steps c.in_default-next.ensures.steps.0)

pub check_places-loop-schema-preserved : goal.check_places-loop-schema-preserved
check_places-loop-schema-preserved g t c = (
  λ after new answer rest. c.loop-schema.invariant.0 after new answer (place_then (faults (g.H.FormI18n.form_text c.args.h.now) c.args.root.now c.args.left) c.loop-schema.index _ _ _ _ _ _ c.in-Some.ensures.steps c.in-Some-next.ensures.steps c.index-place.ensures c.check_under.ensures (search rules) rest),
  omega (arith, c.loop-schema.invariant.1, ap length c.in-Some-next.ensures.steps),
)

pub check_places-returns-in_err-check_under : goal.check_places-returns-in_err-check_under
check_places-returns-in_err-check_under g t c = c.loop-schema.invariant.0 _ _ _ (place_stop (faults (g.H.FormI18n.form_text c.args.h.now) c.args.root.now c.args.left) c.loop-schema.index _ _ _ _ _ _ c.in-Some.ensures.steps c.in-Some-next.ensures.steps c.index-place.ensures c.check_under.ensures (search rules) c.from_residual.ensures.0)

pub check_places-returns : goal.check_places-returns
check_places-returns g t c = c.loop-schema.invariant.0 _ _ _ (place_end (faults (g.H.FormI18n.form_text c.args.h.now) c.args.root.now c.args.left) c.loop-schema.index _ _ c.in_default.ensures.steps.0)
