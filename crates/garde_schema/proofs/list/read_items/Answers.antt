use Rattle.std.proofs.Common.{rules, refl, arith, ◌∙◌, ap, length}
use Rattle.garde_schema.specs.Forms.{Sound}
use Rattle.garde_schema.proofs.Lists.{item_then, item_stop, item_end, items_first, values_begin, values_next, values_end, all_next, all_end, sound_items}
use Rattle.garde_schema.proofs.list.read_items.Goals as goal

pub loop-item-init : goal.loop-item-init
loop-item-init g c = (λ after new answer told. items_first (λ x. g.F.Form.visits c.args.form.now (g.H.FormI18n.form_text c.args.h.now) x) c.args.items told, values_begin (λ x. g.F.Form.value c.args.form.now x) c.new.result c.args.items c.new.ensures, λ all. all, omega arith)

pub loop-item-preserved : goal.loop-item-preserved
loop-item-preserved g c = (
  λ after new answer rest. c.loop-item.invariant.0 after new answer (item_then (λ x. g.F.Form.visits c.args.form.now (g.H.FormI18n.form_text c.args.h.now) x) c.loop-item.index c.loop-item.left _ _ _ c.read_item.result c.in-Some.ensures.steps c.index-place.ensures refl c.read_item.ensures.answer (search rules) rest),
  values_next (λ x. g.F.Form.value c.args.form.now x) c.loop-item.values _ c.loop-item.left _ _ c.in-Some.ensures.steps c.in_ok-values.ensures.value ∙ c.loop-item.invariant.1,
  λ all. c.loop-item.invariant.2 (all_next (λ x. Sound (g.F.Form.visits c.args.form.now (g.H.FormI18n.form_text c.args.h.now) x) (g.F.Form.keeps c.args.form.now) (g.F.Form.value c.args.form.now x)) c.loop-item.left _ _ c.in-Some.ensures.steps c.in_ok-values.ensures.sound all),
  omega (arith, c.loop-item.invariant.3, ap length c.in-Some.ensures.steps),
)

pub returns-in_err-values-clause-answer : goal.returns-in_err-values-clause-answer
returns-in_err-values-clause-answer g c = c.loop-item.invariant.0 _ _ _ (item_stop (λ x. g.F.Form.visits c.args.form.now (g.H.FormI18n.form_text c.args.h.now) x) c.loop-item.index c.loop-item.left _ _ _ c.read_item.result c.from_residual.result c.in-Some.ensures.steps c.index-place.ensures c.read_item.ensures.answer (search rules) c.from_residual.ensures.0)

pub returns-clause-answer : goal.returns-clause-answer
returns-clause-answer g c = c.loop-item.invariant.0 _ _ _ (item_end (λ x. g.F.Form.visits c.args.form.now (g.H.FormI18n.form_text c.args.h.now) x) c.loop-item.index c.loop-item.left c.in_default.ensures.steps.0)

pub returns-clause-value : goal.returns-clause-value
returns-clause-value g c = values_end (λ x. g.F.Form.value c.args.form.now x) c.loop-item.values c.loop-item.left c.in_default.ensures.steps.0 c.loop-item.invariant.1

pub returns-clause-sound : goal.returns-clause-sound
returns-clause-sound g c = sound_items (λ x. g.F.Form.visits c.args.form.now (g.H.FormI18n.form_text c.args.h.now) x) (λ x. g.F.Form.keeps c.args.form.now x) (λ x. g.F.Form.value c.args.form.now x) c.args.items (c.loop-item.invariant.2 (all_end (λ x. Sound (g.F.Form.visits c.args.form.now (g.H.FormI18n.form_text c.args.h.now) x) (g.F.Form.keeps c.args.form.now) (g.F.Form.value c.args.form.now x)) c.loop-item.left c.in_default.ensures.steps.0))
