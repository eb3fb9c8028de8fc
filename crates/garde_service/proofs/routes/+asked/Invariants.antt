use Rattle.std.proofs.Common.{length}
use Rattle.garde_service.proofs.routes.+asked.Given as goal

abbrev pub decreases-asked : goal.decreases-asked
decreases-asked g l = length l.routes.now
