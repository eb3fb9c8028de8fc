use Rattle.garde_report.specs.Part.{key_part}
use Rattle.garde_schema.proofs.Lemmas.{on_ok, on_ok_same, on_ok_then, value_once, optional_missing, optional_once, optional_repeated, sound_optional_missing, sound_optional_once, sound_optional_repeated}
use Rattle.garde_schema.proofs.optional.read_optional.Goals as goal

pub returns-in-Missing-clause-answer : goal.returns-in-Missing-clause-answer
returns-in-Missing-clause-answer g c = optional_missing (key_part c.args.name.now) (g.H.FormI18n.form_text c.args.h.now) (λ v. g.F.Form.visits c.args.form.now (g.H.FormI18n.form_text c.args.h.now) v) _ c.in-Missing.is

pub returns-in-Missing-clause-sound : goal.returns-in-Missing-clause-sound
returns-in-Missing-clause-sound g c = sound_optional_missing (key_part c.args.name.now) (g.H.FormI18n.form_text c.args.h.now) (λ v. g.F.Form.visits c.args.form.now (g.H.FormI18n.form_text c.args.h.now) v) (λ out. g.F.Form.keeps c.args.form.now out) (λ v. g.F.Form.value c.args.form.now v) _ c.in-Missing.is

pub returns-in-Once-clause-answer : goal.returns-in-Once-clause-answer
returns-in-Once-clause-answer g c = optional_once (key_part c.args.name.now) (g.H.FormI18n.form_text c.args.h.now) (λ v. g.F.Form.visits c.args.form.now (g.H.FormI18n.form_text c.args.h.now) v) _ _ c.key.ensures c.in-Once.is c.read_in-read.ensures.answer c.present.ensures.answer

pub returns-in-Repeated-clause-answer : goal.returns-in-Repeated-clause-answer
returns-in-Repeated-clause-answer g c = optional_repeated (key_part c.args.name.now) (g.H.FormI18n.form_text c.args.h.now) (λ v. g.F.Form.visits c.args.form.now (g.H.FormI18n.form_text c.args.h.now) v) _ c.in-Repeated.is c.put_under-told.ensures c.with.ensures.answer

pub returns-in-Repeated-clause-sound : goal.returns-in-Repeated-clause-sound
returns-in-Repeated-clause-sound g c = on_ok _ (sound_optional_repeated (key_part c.args.name.now) (g.H.FormI18n.form_text c.args.h.now) (λ v. g.F.Form.visits c.args.form.now (g.H.FormI18n.form_text c.args.h.now) v) (λ out. g.F.Form.keeps c.args.form.now out) (λ v. g.F.Form.value c.args.form.now v) _ c.in-Repeated.is)

pub returns-in-Once-clause-value : goal.returns-in-Once-clause-value
returns-in-Once-clause-value g c = value_once (λ v. g.F.Form.value c.args.form.now v) _ _ _ c.in-Once.is (c.present.ensures.value _ c.read_in-read.ensures.value)

pub returns-in-Once-clause-sound : goal.returns-in-Once-clause-sound
returns-in-Once-clause-sound g c = on_ok_same c.read_in-read.result _ _ c.present.ensures.answer (on_ok_then c.read_in-read.result c.read_in-read.ensures.sound (sound_optional_once (key_part c.args.name.now) (g.H.FormI18n.form_text c.args.h.now) (λ v. g.F.Form.visits c.args.form.now (g.H.FormI18n.form_text c.args.h.now) v) (λ out. g.F.Form.keeps c.args.form.now out) (λ v. g.F.Form.value c.args.form.now v) _ _ c.in-Once.is))
