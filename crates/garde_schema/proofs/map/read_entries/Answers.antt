use Rattle.std.proofs.Common.{ap, subst}
use Rattle.std.specs.List.{All}
use Rattle.garde_schema.specs.Forms.{Sound}
use Rattle.garde_schema.specs.Lists.{all_values}
use Rattle.garde_schema.specs.Maps.{each_entry, entry_value, members_first}
use Rattle.garde_schema.proofs.Flattened.{others_all}
use Rattle.garde_schema.proofs.Lemmas.{on_ok_then}
use Rattle.garde_schema.proofs.Maps.{if_ok_same, members_as}
use Rattle.garde_schema.proofs.map.read_entries.Goals as goal

pub returns-clause-answer : goal.returns-clause-answer
returns-clause-answer g c = members_as (g.H.FormI18n.form_text c.args.h.now) (λ v. g.F.Form.visits c.args.form.now (g.H.FormI18n.form_text c.args.h.now) v) _ _ (ap (λ ms. members_first ms) (others_all c.args.members)) c.read_others.ensures.answer

pub returns-clause-value : goal.returns-clause-value
returns-clause-value g c = if_ok_same c.read_others.result c.read_others.ensures.value (ap (λ ms. all_values (entry_value (λ v. g.F.Form.value c.args.form.now v)) (members_first ms)) (others_all c.args.members))

pub returns-clause-sound : goal.returns-clause-sound
returns-clause-sound g c = on_ok_then c.read_others.result c.read_others.ensures.sound (λ sound. subst
    (λ ms. Sound (each_entry (g.H.FormI18n.form_text c.args.h.now) (λ v. g.F.Form.visits c.args.form.now (g.H.FormI18n.form_text c.args.h.now) v) (members_first ms))
    (λ out. All (λ e. g.F.Form.keeps c.args.form.now e.1) out) (all_values (entry_value (λ v. g.F.Form.value c.args.form.now v)) (members_first ms)))
    (others_all c.args.members) sound)
