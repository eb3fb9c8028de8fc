use Rattle.garde.proofs.Visiting.{visited_found}
use Rattle.garde.proofs.fields.rules.put_found.Goals as goal

pub returns : goal.returns
returns g c = visited_found _ _ c.put.ensures.valid c.find.ensures c.put.ensures.ok c.put.ensures.err c.put.ensures.unchanged
