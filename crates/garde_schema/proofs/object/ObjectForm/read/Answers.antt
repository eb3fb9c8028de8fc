use Rattle.garde_schema.proofs.Lemmas.{on_ok, sound_object}
use Rattle.garde_tape.specs.Reading.{member_list}
use Rattle.garde_schema.proofs.object.ObjectForm.read.Goals as goal

pub returns-in-None-clause-sound : goal.returns-in-None-clause-sound
returns-in-None-clause-sound g c = on_ok _ (sound_object _ _ _ (λ _. g.M.Members.value c.args.self.now.0 c.args.tree.now) member_list _ c.in-None.is c.members.ensures.value)
