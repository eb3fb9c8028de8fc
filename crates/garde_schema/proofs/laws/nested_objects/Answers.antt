use Rattle.garde_schema.proofs.EachObject.{visits_whole, value_whole}
use Rattle.garde_schema.proofs.laws.nested_objects.Goals as goal

pub returns-clause-visits : goal.returns-clause-visits
returns-clause-visits g c members name closed texts j = visits_whole name closed (g.M.Members.visits members) (g.M.Members.names members) texts j

pub returns-clause-value : goal.returns-clause-value
returns-clause-value g c members name j = value_whole name (g.M.Members.value members) g.T.FromNested.builds j
