use Rattle.json.specs.Find.{as_str}
use Rattle.garde_tape.specs.Look.{kind_of}
use Rattle.garde_schema.specs.declared.fault.FormFault.TheVariants.{Wrong}
use Rattle.garde_schema.specs.declared.fault.Wanted.TheVariants as wanted
use Rattle.garde_parsed.proofs.InMemory.{no_memory, asked, told_none, sound_on}
use Rattle.garde_parsed.proofs.parsed_in_memory.ParsedInMemoryForm.read.Goals as goal

pub returns-in-Err-clause-answer : goal.returns-in-Err-clause-answer
returns-in-Err-clause-answer g c = no_memory _ c.in-Err.error

pub returns-in-Ok-Some-clause-answer : goal.returns-in-Ok-Some-clause-answer
returns-in-Ok-Some-clause-answer g c =
    let form = c.args.self.now in
    let texts = g.H.FormI18n.form_text c.args.h.now in
    asked (texts (Wrong wanted.Text (kind_of c.args.tree.now))) (λ s. g.P.ParseInMemory.message form.0 texts s) (λ v. g.R.Rules.asks form.1 v) (λ s. g.P.ParseInMemory.parsed form.0 s) (as_str c.args.tree.now) c.in-Ok-Some.value (let is = c.in-Ok-Some.field-0-is in let gives = c.in-Ok-Some.ensures in cc) c.ask.ensures.answer

pub returns-in-Ok-Some-clause-sound : goal.returns-in-Ok-Some-clause-sound
returns-in-Ok-Some-clause-sound g c =
    let form = c.args.self.now in
    let texts = g.H.FormI18n.form_text c.args.h.now in
    sound_on (texts (Wrong wanted.Text (kind_of c.args.tree.now))) (λ s. g.P.ParseInMemory.message form.0 texts s) (λ v. g.R.Rules.asks form.1 v) (λ s. g.P.ParseInMemory.parsed form.0 s) c.ask.result (as_str c.args.tree.now)

pub returns-in-Ok-None-clause-answer : goal.returns-in-Ok-None-clause-answer
returns-in-Ok-None-clause-answer g c =
    let form = c.args.self.now in
    let texts = g.H.FormI18n.form_text c.args.h.now in
    told_none (texts (Wrong wanted.Text (kind_of c.args.tree.now))) (λ s. g.P.ParseInMemory.message form.0 texts s) (λ v. g.R.Rules.asks form.1 v) (λ s. g.P.ParseInMemory.parsed form.0 s) (as_str c.args.tree.now) (let is = c.in-Ok-None.field-0-is in let gives = c.in-Ok-None.ensures in cc) c.tell.ensures.answer

pub returns-in-Ok-None-clause-sound : goal.returns-in-Ok-None-clause-sound
returns-in-Ok-None-clause-sound g c =
    let form = c.args.self.now in
    let texts = g.H.FormI18n.form_text c.args.h.now in
    sound_on (texts (Wrong wanted.Text (kind_of c.args.tree.now))) (λ s. g.P.ParseInMemory.message form.0 texts s) (λ v. g.R.Rules.asks form.1 v) (λ s. g.P.ParseInMemory.parsed form.0 s) c.tell.result (as_str c.args.tree.now)
