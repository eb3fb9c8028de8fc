use Rattle.garde_parsed.proofs.MomentLaws.{timestamp_law}
use Rattle.garde_parsed.proofs.laws.timestamps.Goals as goal

pub returns : goal.returns
returns c = timestamp_law
