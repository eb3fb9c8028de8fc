use Rattle.std.proofs.Common.{rules}
use Rattle.std.specs.List.{All}
use Rattle.garde_schema.proofs.Lemmas.{read_stop, read_then_stop, read_both, sound_both}
use Rattle.garde_schema.proofs.rest.RestMembers.read_members.Goals as goal

pub returns-in_err-first-clause-answer : goal.returns-in_err-first-clause-answer
returns-in_err-first-clause-answer g c = read_stop _ _ c.read_members.result c.from_residual.result c.read_members.ensures.answer (search rules) c.from_residual.ensures.0

pub returns-in_err-rest-clause-answer : goal.returns-in_err-rest-clause-answer
returns-in_err-rest-clause-answer g c = read_then_stop _ _ c.read_members.result c.read_rest.result c.from_residual-in_err-rest.result c.read_members.ensures.answer (search rules) c.read_rest.ensures.answer (search rules) c.from_residual-in_err-rest.ensures.0

pub returns-clause-answer : goal.returns-clause-answer
returns-clause-answer g c = read_both _ _ c.read_members.result c.read_rest.result c.read_members.ensures.answer (search rules) c.read_rest.ensures.answer (search rules)

pub returns-clause-sound : goal.returns-clause-sound
returns-clause-sound g c = sound_both _ _ (λ x. g.M.Members.keeps c.args.self.now.0 x) (λ out. All (λ e. g.F.Form.keeps c.args.self.now.1 e.1) out) _ _ c.in_ok-first.ensures.sound c.in_ok-rest.ensures.sound
