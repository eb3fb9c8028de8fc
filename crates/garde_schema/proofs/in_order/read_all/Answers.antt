use Rattle.std.proofs.Common.{rules}
use Rattle.garde_schema.proofs.Lemmas.{on_ok, read_stop, read_and, sound_first}
use Rattle.garde_schema.proofs.in_order.read_all.Goals as goal

pub returns-in_err-value-clause-answer : goal.returns-in_err-value-clause-answer
returns-in_err-value-clause-answer g c = read_stop _ _ c.read_members.result c.from_residual.result c.read_members.ensures.answer (search rules) c.from_residual.ensures.0

pub returns-clause-answer : goal.returns-clause-answer
returns-clause-answer g c = read_and _ _ c.read_members.result c.read_members.ensures.answer (search rules) c.check_count-told.ensures c.with.ensures.answer

pub returns-clause-sound : goal.returns-clause-sound
returns-clause-sound g c = on_ok _ (sound_first _ _ (λ out. g.M.Members.keeps c.args.form.now.1 out) _ c.in_ok-value.ensures.sound)
