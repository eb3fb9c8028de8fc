use Rattle.std.specs.Prelude.{option_and_then}
use Rattle.garde_form.proofs.Lemmas.{on_ok, sound_read}
use Rattle.garde_form.proofs.parsed.read_text.Goals as goal

pub returns-in-None-clause-sound : goal.returns-in-None-clause-sound
returns-in-None-clause-sound g c = on_ok c.with-in-None.result (sound_read (option_and_then (λ v. g.R.NumberRules.bound c.args.form.now.1 v) (g.P.Parse.nearest c.args.form.now.0 c.args.text.now)) (g.P.Parse.message c.args.form.now.0 (g.H.FormI18n.form_text c.args.h.now) c.args.text.now) (λ v. g.R.Rules.asks c.args.form.now.1 v) (g.P.Parse.parsed c.args.form.now.0 c.args.text.now))
