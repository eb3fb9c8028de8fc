use Rattle.std.proofs.Common.{None, Ok, refl}
use Rattle.garde.proofs.Author.{visited_may_allocate}
use Rattle.garde_schema.proofs.kept.put_nothing.Goals as goal

pub returns : goal.returns
returns g c = visited_may_allocate None (Ok tt) c.put.ensures.valid refl c.put.ensures.ok c.put.ensures.err c.put.ensures.unchanged
