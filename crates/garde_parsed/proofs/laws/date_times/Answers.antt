use Rattle.garde_parsed.proofs.MomentLaws.{datetime_law}
use Rattle.garde_parsed.proofs.laws.date_times.Goals as goal

pub returns : goal.returns
returns c = datetime_law
