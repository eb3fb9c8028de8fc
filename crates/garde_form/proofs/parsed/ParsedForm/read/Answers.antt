use Rattle.std.specs.Prelude.{option_and_then}
use Rattle.garde.specs.Visits.{Known}
use Rattle.garde_tape.specs.Look.{kind_of}
use Rattle.garde_schema.specs.declared.fault.FormFault.TheVariants.{Wrong}
use Rattle.garde_schema.specs.declared.fault.Wanted.TheVariants as wanted
use Rattle.garde_schema.specs.Whole.{number_visits}
use Rattle.garde_form.specs.Bare.{text_in}
use Rattle.garde_form.specs.Texts.{unread}
use Rattle.garde_form.proofs.Lemmas.{on_ok, sound_read, sound_text}
use Rattle.garde_form.proofs.parsed.ParsedForm.read.Goals as goal

pub returns-in-None-clause-sound : goal.returns-in-None-clause-sound
returns-in-None-clause-sound g c =
    let form = c.args.self.now in
    let texts = g.H.FormI18n.form_text c.args.h.now in
    on_ok c.with.result (sound_text (texts (Wrong wanted.Text (kind_of c.args.tree.now)))
    (λ s. number_visits (unread (option_and_then (λ v. g.R.NumberRules.bound form.1 v) (g.P.Parse.nearest form.0 s)) (g.P.Parse.message form.0 texts s)) (λ v. g.R.Rules.asks form.1 v) (g.P.Parse.parsed form.0 s))
    (λ v. Known (g.R.Rules.asks form.1 v)) (λ s. g.P.Parse.parsed form.0 s) (text_in (g.P.Parse.bare form.0) c.args.tree.now)
    (λ s. sound_read (option_and_then (λ v. g.R.NumberRules.bound form.1 v) (g.P.Parse.nearest form.0 s)) (g.P.Parse.message form.0 texts s) (λ v. g.R.Rules.asks form.1 v) (g.P.Parse.parsed form.0 s)))
