use Rattle.garde_problem.proofs.Messages.{at_mark}
use Rattle.garde_problem.proofs.coded.cut.Goals as goal

pub returns : goal.returns
returns c = at_mark c.args.text.now c.split_once.result c.split_once.ensures.cases
