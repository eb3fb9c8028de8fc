use Rattle.garde_problem.proofs.Pointers.{pointers_differ}
use Rattle.garde_problem.proofs.laws.pointers_differ.Goals as goal

pub returns : goal.returns
returns c = pointers_differ
