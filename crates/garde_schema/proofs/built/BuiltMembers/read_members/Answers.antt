use Rattle.garde_schema.proofs.Making.{sound_built}
use Rattle.garde_schema.proofs.built.BuiltMembers.read_members.Goals as goal

pub returns-in-Ok-Some-clause-sound : goal.returns-in-Ok-Some-clause-sound
returns-in-Ok-Some-clause-sound g c = sound_built (g.M.Members.visits c.args.self.now.0 (g.H.FormI18n.form_text c.args.h.now) c.args.object.now) (λ out. g.M.Members.keeps c.args.self.now.0 out) (λ p. g.T.FromParts.builds p) (λ made. g.T.FromParts.parts_of made) (g.M.Members.value c.args.self.now.0 c.args.object.now) (λ p. g.met.T.FromParts.kept p) c.in-Ok-Some.ensures.sound
