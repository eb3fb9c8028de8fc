use Rattle.garde_schema.proofs.Flattened.{rest_of, rest_value, rest_sound, no_rest, no_rest_value, no_rest_sound}
use Rattle.garde_schema.proofs.rest.read_rest.Goals as goal

pub returns-in-Some-clause-answer : goal.returns-in-Some-clause-answer
returns-in-Some-clause-answer g c = rest_of (g.H.FormI18n.form_text c.args.h.now) (λ v. g.F.Form.visits c.args.form.now (g.H.FormI18n.form_text c.args.h.now) v) (λ name. g.M.Members.names c.args.named.now name) c.args.object.now _ c.in-Some.is c.members.ensures.value c.read_others.ensures.answer

pub returns-in-Some-clause-value : goal.returns-in-Some-clause-value
returns-in-Some-clause-value g c = rest_value (λ v. g.F.Form.value c.args.form.now v) (λ name. g.M.Members.names c.args.named.now name) c.args.object.now _ c.read_others.result c.in-Some.is c.members.ensures.value c.read_others.ensures.value

pub returns-in-Some-clause-sound : goal.returns-in-Some-clause-sound
returns-in-Some-clause-sound g c = rest_sound (g.H.FormI18n.form_text c.args.h.now) (λ v. g.F.Form.visits c.args.form.now (g.H.FormI18n.form_text c.args.h.now) v) (λ x. g.F.Form.keeps c.args.form.now x) (λ v. g.F.Form.value c.args.form.now v) (λ name. g.M.Members.names c.args.named.now name) c.args.object.now _ c.read_others.result c.in-Some.is c.members.ensures.value c.read_others.ensures.sound

pub returns-in-None-clause-answer : goal.returns-in-None-clause-answer
returns-in-None-clause-answer g c = no_rest (g.H.FormI18n.form_text c.args.h.now) (λ v. g.F.Form.visits c.args.form.now (g.H.FormI18n.form_text c.args.h.now) v) (λ name. g.M.Members.names c.args.named.now name) c.args.object.now c.in-None.is c.members.ensures.value

pub returns-in-None-clause-value : goal.returns-in-None-clause-value
returns-in-None-clause-value g c = no_rest_value (λ v. g.F.Form.value c.args.form.now v) (λ name. g.M.Members.names c.args.named.now name) c.args.object.now c.new.result c.in-None.is c.members.ensures.value c.new.ensures

pub returns-in-None-clause-sound : goal.returns-in-None-clause-sound
returns-in-None-clause-sound g c = no_rest_sound (g.H.FormI18n.form_text c.args.h.now) (λ v. g.F.Form.visits c.args.form.now (g.H.FormI18n.form_text c.args.h.now) v) (λ x. g.F.Form.keeps c.args.form.now x) (λ v. g.F.Form.value c.args.form.now v) (λ name. g.M.Members.names c.args.named.now name) c.args.object.now c.in-None.is c.members.ensures.value
