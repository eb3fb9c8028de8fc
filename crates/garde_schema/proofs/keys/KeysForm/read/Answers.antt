use Rattle.std.proofs.Common.{rules, length}
use Rattle.std.specs.List.{All}
use Rattle.garde.specs.Visits.{Known}
use Rattle.garde_schema.proofs.Lemmas.{on_ok, read_stop}
use Rattle.garde_schema.proofs.RulesOnValue.{read_and_asked, sound_rules}
use Rattle.garde_schema.specs.Maps.{each_key, names_of}
use Rattle.garde_schema.proofs.keys.KeysForm.read.Goals as goal

pub returns-in_err-value-clause-answer : goal.returns-in_err-value-clause-answer
returns-in_err-value-clause-answer g c = read_stop _ _ c.read.result c.from_residual.result c.read.ensures.answer (search rules) c.from_residual.ensures.0

pub returns-clause-answer : goal.returns-clause-answer
returns-clause-answer g c = read_and_asked _ (λ v. each_key (λ name. g.R.Rules.asks c.args.self.now.1 name) (names_of v)) _ _ c.read.result c.in_ok-value.ensures.value c.read.ensures.answer (search rules) c.ask_names-told.ensures c.with.ensures.answer

pub returns-clause-sound : goal.returns-clause-sound
returns-clause-sound g c = on_ok _ (sound_rules _ (λ v. each_key (λ name. g.R.Rules.asks c.args.self.now.1 name) (names_of v)) (λ out. Known (g.C.Rules.asks c.args.self.now.0.0 (length out)) × All (λ e. g.F.Form.keeps c.args.self.now.0.1 e.1) out) _ c.in_ok-value.ensures.sound)
