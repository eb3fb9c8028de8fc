use Rattle.std.proofs.Common.{rules}
use Rattle.garde_schema.proofs.Lemmas.{read_stop, read_then_stop, read_both, sound_both}
use Rattle.garde_schema.proofs.tuples.Tuple2Members.read_members.Goals as goal

pub returns-in_err-first-clause-answer : goal.returns-in_err-first-clause-answer
returns-in_err-first-clause-answer g c = read_stop _ _ c.read_members.result c.from_residual.result c.read_members.ensures.answer (search rules) c.from_residual.ensures.0

pub returns-in_err-second-clause-answer : goal.returns-in_err-second-clause-answer
returns-in_err-second-clause-answer g c = read_then_stop _ _ c.read_members.result c.read_members-2.result c.from_residual-in_err-second.result c.read_members.ensures.answer (search rules) c.read_members-2.ensures.answer (search rules) c.from_residual-in_err-second.ensures.0

pub returns-clause-answer : goal.returns-clause-answer
returns-clause-answer g c = read_both _ _ c.read_members.result c.read_members-2.result c.read_members.ensures.answer (search rules) c.read_members-2.ensures.answer (search rules)

pub returns-clause-sound : goal.returns-clause-sound
returns-clause-sound g c = sound_both _ _ (λ x. g.A.Members.keeps c.args.self.now.0 x) (λ x. g.B.Members.keeps c.args.self.now.1 x) _ _ c.in_ok-first.ensures.sound c.in_ok-second.ensures.sound
