use Rattle.garde_tape.proofs.Marks as marks
use Rattle.garde_tape.proofs.input.json_has_no_mark.Goals as goal

pub returns : goal.returns
returns c = marks.json_has_no_mark c.args._text.now
