use Rattle.garde.proofs.Visiting.{visited_when, visited_unless}
use Rattle.garde.proofs.fields.condition.WhenRules.ask.Goals as goal

pub returns-then-self : goal.returns-then-self
returns-then-self g c = visited_when _ _ c.if-self.true c.ask.ensures

pub returns-else-self : goal.returns-else-self
returns-else-self g c = visited_unless _ _ c.if-self.false
