use Rattle.example_import.proofs.Repeated.{runs_again}
use Rattle.example_import.proofs.laws.run_again.Goals as goal

pub returns : goal.returns
returns c = runs_again
