use Rattle.std.proofs.Common.{length}
use Rattle.garde_service.proofs.paths.+fits.Given as goal

abbrev pub decreases-fits : goal.decreases-fits
decreases-fits l = length l.pattern.now
