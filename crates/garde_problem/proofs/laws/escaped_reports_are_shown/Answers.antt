use Rattle.garde_problem.proofs.Shown.{escaped_reports_are_shown}
use Rattle.garde_problem.proofs.laws.escaped_reports_are_shown.Goals as goal

pub returns : goal.returns
returns c = escaped_reports_are_shown
