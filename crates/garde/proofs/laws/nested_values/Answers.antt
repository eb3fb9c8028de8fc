use Rattle.garde.proofs.Nesting.{nest_law}
use Rattle.garde.proofs.laws.nested_values.Goals as goal

pub returns : goal.returns
returns g c = nest_law g.T.Recursive.nest
