use Rattle.garde.proofs.Read.{reads_by_handler}
use Rattle.garde.proofs.laws.read_by_handler.Goals as goal

pub returns : goal.returns
returns c = reads_by_handler
