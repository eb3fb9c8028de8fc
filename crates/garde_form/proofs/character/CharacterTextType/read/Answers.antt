use Rattle.garde_form.proofs.Characters.{character_some, character_none}
use Rattle.garde_form.proofs.character.CharacterTextType.read.Goals as goal

pub returns-in-Ok : goal.returns-in-Ok
returns-in-Ok c = character_some c.args.text.now _ c.utf8.text c.in-Ok.ensures.value

pub returns-in-Err : goal.returns-in-Err
returns-in-Err c = character_none c.args.text.now c.utf8.text c.in-Err.ensures.value
