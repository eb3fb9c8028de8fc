use Rattle.garde_report.specs.Part.{key_part}
use Rattle.garde_schema.proofs.Lemmas.{on_ok}
use Rattle.garde_schema.proofs.Unions.{sound_not_chosen}
use Rattle.garde_schema.proofs.tagged.read_chosen.Goals as goal

pub returns-in-Err-clause-sound : goal.returns-in-Err-clause-sound
returns-in-Err-clause-sound g c = on_ok c.with.result (sound_not_chosen (key_part c.args.name.now) (g.H.FormI18n.form_text c.args.h.now) (λ c'. g.V.Variants.visits c.args.variants.now c' c.args.name.now (g.H.FormI18n.form_text c.args.h.now) c.args.object.now) (λ out. g.V.Variants.keeps c.args.variants.now out) (λ c'. g.V.Variants.value c.args.variants.now c' c.args.object.now) _ _ c.in-Err.is)
