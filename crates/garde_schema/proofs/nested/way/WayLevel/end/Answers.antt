use Rattle.garde.proofs.Author.{visited_when, visited_unless}
use Rattle.garde_schema.proofs.nested.way.WayLevel.end.Goals as goal

pub returns-then-self : goal.returns-then-self
returns-then-self g c = visited_when _ _ c.if-self.true c.check_members.ensures

pub returns-else-self : goal.returns-else-self
returns-else-self g c = visited_unless _ _ c.if-self.false
