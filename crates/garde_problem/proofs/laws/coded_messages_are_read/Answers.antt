use Rattle.garde_problem.proofs.Messages.{coded_messages_are_read}
use Rattle.garde_problem.proofs.laws.coded_messages_are_read.Goals as goal

pub returns : goal.returns
returns g = coded_messages_are_read
