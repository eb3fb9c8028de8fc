use Rattle.garde_problem.proofs.Pointers.{pointers_are_read}
use Rattle.garde_problem.proofs.laws.pointers_are_read.Goals as goal

pub returns : goal.returns
returns c = pointers_are_read
