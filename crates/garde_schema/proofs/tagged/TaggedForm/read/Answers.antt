use Rattle.std.proofs.Common.{ap, ◌∙◌}
use Rattle.garde_report.specs.Part.{key_part}
use Rattle.garde_tape.specs.Look.{find_answer}
use Rattle.garde_tape.specs.Reading.{member_list}
use Rattle.garde_schema.specs.Variants.{tag_choice, chosen_value}
use Rattle.garde_schema.proofs.Lemmas.{on_ok, sound_object}
use Rattle.garde_schema.proofs.Unions.{told_chosen, told_object}
use Rattle.garde_schema.proofs.tagged.TaggedForm.read.Goals as goal

pub returns-in-Some-clause-answer : goal.returns-in-Some-clause-answer
returns-in-Some-clause-answer g c = told_object _ _ member_list _ _ c.in-Some.is c.members.ensures.value (told_chosen (key_part c.args.self.now.0.now) (g.H.FormI18n.form_text c.args.h.now) (λ c'. g.V.Variants.visits c.args.self.now.1 c' c.args.self.now.0.now (g.H.FormI18n.form_text c.args.h.now) c.args.tree.now) _ _ (c.choice_of-choice.ensures ∙ ap (λ found. tag_choice (λ name. g.V.Variants.chosen c.args.self.now.1 name) found) c.find.ensures) c.read_chosen.ensures.answer)

pub returns-in-None-clause-sound : goal.returns-in-None-clause-sound
returns-in-None-clause-sound g c = on_ok c.with.result (sound_object _ _ _ (λ _. chosen_value (λ c'. g.V.Variants.value c.args.self.now.1 c' c.args.tree.now) (tag_choice (λ name. g.V.Variants.chosen c.args.self.now.1 name) (find_answer c.args.self.now.0.now c.args.tree.now))) member_list _ c.in-None.is c.members.ensures.value)
