use Rattle.std.proofs.Common.{ap}
use Rattle.std.specs.Prelude.{not}
use Rattle.garde.proofs.Author.{visited_unless, visited_when}
use Rattle.garde_described.proofs.put.put_unless.Goals as goal

pub returns-then-holds : goal.returns-then-holds
returns-then-holds g c = visited_unless (not c.args.holds) _ (ap not c.if-holds.true)

pub returns-else-holds : goal.returns-else-holds
returns-else-holds g c = visited_when (not c.args.holds) _ (ap not c.if-holds.false) c.put.ensures
