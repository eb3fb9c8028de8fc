use Rattle.garde_report.proofs.PlainPaths.{plain_paths_differ}
use Rattle.garde_report.proofs.laws.plain_paths.Goals as goal

pub returns : goal.returns
returns c = plain_paths_differ
