use Rattle.garde_form.proofs.Numerals.{unsigned_some, unsigned_none}
use Rattle.garde_form.proofs.numbers.read_unsigned.Goals as goal

pub returns-in-Ok : goal.returns-in-Ok
returns-in-Ok c = unsigned_some c.args.text.now _ c.in-Ok.ensures.value.0.0 c.in-Ok.ensures.value.0.1

pub returns-in-Err : goal.returns-in-Err
returns-in-Err c = unsigned_none c.args.text.now c.in-Err.ensures.value.0
