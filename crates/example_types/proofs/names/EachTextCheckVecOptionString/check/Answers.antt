use Rattle.std.proofs.Common.{rules}
use Rattle.garde.proofs.Author.{visited_calls}
use Rattle.example_types.proofs.names.EachTextCheckVecOptionString.check.Goals as goal

pub returns : goal.returns
returns g c = visited_calls _ _ _ _ c.apply.ensures (search rules)
