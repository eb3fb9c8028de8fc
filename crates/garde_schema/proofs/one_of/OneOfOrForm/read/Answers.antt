use Rattle.garde_schema.proofs.one_of.OneOfOrForm.read.Goals as goal

pub returns-clause-answer : goal.returns-clause-answer
returns-clause-answer g c = c.read_seen.ensures.answer _ c.value_or-seen.ensures

pub returns-clause-sound : goal.returns-clause-sound
returns-clause-sound g c = c.read_seen.ensures.sound _ c.value_or-seen.ensures
