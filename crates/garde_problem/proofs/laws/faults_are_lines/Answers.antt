use Rattle.garde_problem.proofs.Escapes.{faults_are_lines}
use Rattle.garde_problem.proofs.laws.faults_are_lines.Goals as goal

pub returns : goal.returns
returns c = faults_are_lines
