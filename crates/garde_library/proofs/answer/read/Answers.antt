use Rattle.garde_library.proofs.answer.read.Goals as goal

pub returns-in-Ok : goal.returns-in-Ok
returns-in-Ok g c = c.in-Ok.ensures.answer

pub returns : goal.returns
returns g c = c.in-Err.ensures.answer
