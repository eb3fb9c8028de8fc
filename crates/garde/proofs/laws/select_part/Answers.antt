use Rattle.garde.proofs.SelectLemmas.{select_gives_part}
use Rattle.garde.proofs.laws.select_part.Goals as goal

pub returns : goal.returns
returns c = select_gives_part
