use Rattle.garde.proofs.Visiting.{visited_may_allocate}
use Rattle.garde.proofs.fields.rules.IsInMemoryRules.ask.Goals as goal

pub returns : goal.returns
returns g c = visited_may_allocate _ _ c.put.ensures.valid c.find_in_memory.ensures c.put.ensures.ok c.put.ensures.err c.put.ensures.unchanged
