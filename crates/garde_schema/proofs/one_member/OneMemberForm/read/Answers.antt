use Rattle.garde_report.specs.Part.{key_part}
use Rattle.garde_schema.specs.declared.fault.FormFault.TheVariants as faults
use Rattle.garde_schema.specs.OneMember.{only_name, only_fault}
use Rattle.garde_schema.specs.Variants.{choice_or, chosen_visits, chosen_value}
use Rattle.garde_schema.proofs.Lemmas.{on_ok}
use Rattle.garde_schema.proofs.Unions.{told_chosen, told_named, told_unnamed, sound_unnamed}
use Rattle.garde_schema.proofs.one_member.OneMemberForm.read.Goals as goal

pub returns-in-Ok-clause-answer : goal.returns-in-Ok-clause-answer
returns-in-Ok-clause-answer g c = told_named _ (λ name. chosen_visits (key_part name) (g.H.FormI18n.form_text c.args.h.now) (λ c'. g.V.Variants.visits c.args.self.now.0 c' name (g.H.FormI18n.form_text c.args.h.now) c.args.tree.now) (choice_or faults.Unknown (g.V.Variants.chosen c.args.self.now.0 name))) (only_name c.args.tree.now) c.in-Ok.name.now c.in-Ok.ensures.name (told_chosen (key_part c.in-Ok.name.now) (g.H.FormI18n.form_text c.args.h.now) (λ c'. g.V.Variants.visits c.args.self.now.0 c' c.in-Ok.name.now (g.H.FormI18n.form_text c.args.h.now) c.args.tree.now) _ _ c.chosen-choice.ensures c.read_chosen.ensures.answer)

pub returns-in-Err-clause-answer : goal.returns-in-Err-clause-answer
returns-in-Err-clause-answer g c = told_unnamed (g.H.FormI18n.form_text c.args.h.now) (λ name. chosen_visits (key_part name) (g.H.FormI18n.form_text c.args.h.now) (λ c'. g.V.Variants.visits c.args.self.now.0 c' name (g.H.FormI18n.form_text c.args.h.now) c.args.tree.now) (choice_or faults.Unknown (g.V.Variants.chosen c.args.self.now.0 name))) (only_name c.args.tree.now) c.in-Err.fault (only_fault c.args.tree.now) c.in-Err.ensures.none c.in-Err.ensures.fault c.put.ensures c.with.ensures.answer

pub returns-in-Err-clause-sound : goal.returns-in-Err-clause-sound
returns-in-Err-clause-sound g c = on_ok c.with.result (sound_unnamed _ (λ name. chosen_visits (key_part name) (g.H.FormI18n.form_text c.args.h.now) (λ c'. g.V.Variants.visits c.args.self.now.0 c' name (g.H.FormI18n.form_text c.args.h.now) c.args.tree.now) (choice_or faults.Unknown (g.V.Variants.chosen c.args.self.now.0 name))) _ (λ name. chosen_value (λ c'. g.V.Variants.value c.args.self.now.0 c' c.args.tree.now) (choice_or faults.Unknown (g.V.Variants.chosen c.args.self.now.0 name))) (only_name c.args.tree.now) c.in-Err.ensures.none)
