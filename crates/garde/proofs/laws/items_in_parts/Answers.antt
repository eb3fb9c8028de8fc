use Rattle.garde.proofs.InParts.{items_in_parts, read_in_parts}
use Rattle.garde.proofs.laws.items_in_parts.Goals as goal

pub returns-clause-trees : goal.returns-clause-trees
returns-clause-trees g c = λ check. items_in_parts (λ x. (g.C.Check.visits check x).trees)

pub returns-clause-reading : goal.returns-clause-reading
returns-clause-reading g c = read_in_parts
