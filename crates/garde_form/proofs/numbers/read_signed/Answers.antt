use Rattle.garde_form.proofs.Numerals.{signed_some, signed_none}
use Rattle.garde_form.proofs.numbers.read_signed.Goals as goal

pub returns-in-Ok : goal.returns-in-Ok
returns-in-Ok c = signed_some c.args.text.now _ c.in-Ok.ensures.value.0.0 c.in-Ok.ensures.value.0.1

pub returns-in-Err : goal.returns-in-Err
returns-in-Err c = signed_none c.args.text.now c.in-Err.ensures.value.0
