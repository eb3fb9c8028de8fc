use Rattle.garde_problem.proofs.Messages.{other_messages_are_custom}
use Rattle.garde_problem.proofs.laws.other_messages_are_custom.Goals as goal

pub returns : goal.returns
returns g = other_messages_are_custom
