use Rattle.garde_schema.proofs.Lemmas.{on_ok, sound_missing, sound_repeated}
use Rattle.garde_schema.proofs.member.read_found.Goals as goal

pub returns-in-Missing-clause-sound : goal.returns-in-Missing-clause-sound
returns-in-Missing-clause-sound g c = on_ok _ (sound_missing (g.H.FormI18n.form_text c.args.h.now) (λ v. g.F.Form.visits c.args.form.now (g.H.FormI18n.form_text c.args.h.now) v) (λ out. g.F.Form.keeps c.args.form.now out) (λ v. g.F.Form.value c.args.form.now v) _ c.in-Missing.is)

pub returns-in-Repeated-clause-sound : goal.returns-in-Repeated-clause-sound
returns-in-Repeated-clause-sound g c = on_ok _ (sound_repeated (g.H.FormI18n.form_text c.args.h.now) (λ v. g.F.Form.visits c.args.form.now (g.H.FormI18n.form_text c.args.h.now) v) (λ out. g.F.Form.keeps c.args.form.now out) (λ v. g.F.Form.value c.args.form.now v) _ c.in-Repeated.is)
