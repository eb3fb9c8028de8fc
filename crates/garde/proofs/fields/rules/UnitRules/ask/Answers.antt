use Rattle.garde.proofs.Visiting.{visited_none}
use Rattle.garde.proofs.fields.rules.UnitRules.ask.Goals as goal

pub returns : goal.returns
returns g c = visited_none
