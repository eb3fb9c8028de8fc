use Rattle.garde_engines.proofs.Units.{units_law}
use Rattle.garde_engines.proofs.laws.units.Goals as goal

pub returns : goal.returns
returns c = units_law
