use Rattle.garde_parsed.proofs.MomentLaws.{time_law}
use Rattle.garde_parsed.proofs.laws.times.Goals as goal

pub returns : goal.returns
returns c = time_law
