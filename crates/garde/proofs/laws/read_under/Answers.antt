use Rattle.garde.proofs.Read.{reads_under}
use Rattle.garde.proofs.laws.read_under.Goals as goal

pub returns : goal.returns
returns c = reads_under
