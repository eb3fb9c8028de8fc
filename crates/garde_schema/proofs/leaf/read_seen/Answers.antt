use Rattle.garde_schema.proofs.Lemmas.{on_ok, sound_none}
use Rattle.garde_schema.proofs.leaf.read_seen.Goals as goal

pub returns-in-None-clause-sound : goal.returns-in-None-clause-sound
returns-in-None-clause-sound g c = λ is same. on_ok c.with-in-None.result (sound_none _ _ _ is c.in-None.is same)
