use Rattle.garde_schema.proofs.Lemmas.{on_ok}
use Rattle.garde_schema.proofs.Lists.{sound_no_list}
use Rattle.garde_schema.specs.Lists.{all_values}
use Rattle.garde_schema.specs.Maps.{entry_value, map_of, members_first}
use Rattle.garde_schema.proofs.map_under.MapUnderForm.read.Goals as goal

pub returns-in-None-clause-sound : goal.returns-in-None-clause-sound
returns-in-None-clause-sound g c = on_ok _ (sound_no_list _ _ _ (λ ms. all_values (entry_value (λ v. g.F.Form.value c.args.self.now.1 v)) (members_first ms)) (map_of c.args.tree.now) c.in-None.is c.members.ensures.value)
