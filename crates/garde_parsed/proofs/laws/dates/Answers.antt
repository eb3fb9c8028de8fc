use Rattle.garde_parsed.proofs.MomentLaws.{date_law}
use Rattle.garde_parsed.proofs.laws.dates.Goals as goal

pub returns : goal.returns
returns c = date_law
