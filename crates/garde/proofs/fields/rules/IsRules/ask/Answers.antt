use Rattle.std.proofs.Common.{rules, Ok}
use Rattle.garde.proofs.Visiting.{visited_found}
use Rattle.garde.proofs.fields.rules.IsRules.ask.Goals as goal

pub returns-then-holds : goal.returns-then-holds
returns-then-holds g c = visited_found _ (Ok tt) c.put.ensures.valid (c.holds.ensures (search rules)) c.put.ensures.ok c.put.ensures.err c.put.ensures.unchanged
