use Rattle.garde.proofs.Visiting.{visited_none}
use Rattle.garde.proofs.fields.field.UnitFields.visit.Goals as goal

pub returns : goal.returns
returns g c = visited_none
