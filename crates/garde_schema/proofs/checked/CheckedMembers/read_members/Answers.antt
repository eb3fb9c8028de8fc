use Rattle.std.proofs.Common.{rules}
use Rattle.garde_schema.proofs.Lemmas.{on_ok, read_stop}
use Rattle.garde_schema.proofs.RulesOnValue.{read_and_asked, sound_rules}
use Rattle.garde_schema.proofs.checked.CheckedMembers.read_members.Goals as goal

pub returns-in_err-value-clause-answer : goal.returns-in_err-value-clause-answer
returns-in_err-value-clause-answer g c = read_stop _ _ c.read_members.result c.from_residual.result c.read_members.ensures.answer (search rules) c.from_residual.ensures.0

pub returns-clause-answer : goal.returns-clause-answer
returns-clause-answer g c = read_and_asked _ (λ v. g.R.Rules.asks c.args.self.now.1 v) _ _ c.read_members.result c.in_ok-value.ensures.value c.read_members.ensures.answer (search rules) c.ask_value-told.ensures c.with.ensures.answer

pub returns-clause-sound : goal.returns-clause-sound
returns-clause-sound g c = on_ok _ (sound_rules _ (λ v. g.R.Rules.asks c.args.self.now.1 v) (λ out. g.M.Members.keeps c.args.self.now.0 out) _ c.in_ok-value.ensures.sound)
