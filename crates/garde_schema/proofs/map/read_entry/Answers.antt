use Rattle.garde_report.specs.Part.{key_part}
use Rattle.garde_schema.specs.declared.fault.FormFault.TheVariants as faults
use Rattle.garde_schema.proofs.Lemmas.{on_ok, on_ok_then}
use Rattle.garde_schema.proofs.Maps.{if_ok_same, value_repeated, value_new, sound_repeated_name, sound_new_name, entry_new, entry_repeated}
use Rattle.garde_schema.proofs.map.read_entry.Goals as goal

pub returns-then-came-clause-answer : goal.returns-then-came-clause-answer
returns-then-came-clause-answer g c = entry_repeated (key_part c.args.name.now) (g.H.FormI18n.form_text c.args.h.now faults.Repeated) (λ v. g.F.Form.visits c.args.form.now (g.H.FormI18n.form_text c.args.h.now) v) c.args.came c.args.tree.now c.if-came.true c.put_under-told.ensures c.with.ensures.answer

pub returns-then-came-clause-value : goal.returns-then-came-clause-value
returns-then-came-clause-value g c = if_ok_same c.with.result c.with.ensures.value (value_repeated (λ v. g.F.Form.value c.args.form.now v) c.args.values c.args.name.now c.args.came c.args.tree.now c.if-came.true)

pub returns-then-came-clause-sound : goal.returns-then-came-clause-sound
returns-then-came-clause-sound g c = on_ok c.with.result (sound_repeated_name (g.H.FormI18n.form_text c.args.h.now faults.Repeated) (λ v. g.F.Form.visits c.args.form.now (g.H.FormI18n.form_text c.args.h.now) v) (λ x. g.F.Form.keeps c.args.form.now x) (λ v. g.F.Form.value c.args.form.now v) c.args.name.now c.args.came c.args.tree.now c.if-came.true)

pub returns-clause-answer : goal.returns-clause-answer
returns-clause-answer g c = entry_new (key_part c.args.name.now) (g.H.FormI18n.form_text c.args.h.now faults.Repeated) (λ v. g.F.Form.visits c.args.form.now (g.H.FormI18n.form_text c.args.h.now) v) c.args.came c.args.tree.now c.if-came.false c.read_value.ensures.answer

pub returns-clause-value : goal.returns-clause-value
returns-clause-value g c = if_ok_same c.read_value.result c.read_value.ensures.value (value_new (λ v. g.F.Form.value c.args.form.now v) c.args.values c.args.name.now c.args.came c.args.tree.now c.if-came.false)

pub returns-clause-sound : goal.returns-clause-sound
returns-clause-sound g c = on_ok_then c.read_value.result c.read_value.ensures.sound (sound_new_name (g.H.FormI18n.form_text c.args.h.now faults.Repeated) (λ v. g.F.Form.visits c.args.form.now (g.H.FormI18n.form_text c.args.h.now) v) (λ x. g.F.Form.keeps c.args.form.now x) (λ v. g.F.Form.value c.args.form.now v) c.args.name.now c.args.came c.args.tree.now c.if-came.false)
