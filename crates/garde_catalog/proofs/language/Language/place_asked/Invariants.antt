use Rattle.std.proofs.Common.{option_copied}
use Rattle.garde_catalog.proofs.Cutting.{left_of}
use Rattle.garde_catalog.proofs.SoFar.{BestBefore}
use Rattle.garde_catalog.proofs.language.Language.place_asked.Given as goal

abbrev pub invariant-loop-rest : goal.invariant-loop-rest
invariant-loop-rest l = BestBefore l.field l.offered (option_copied l.rest) l.best

abbrev pub decreases-loop-rest : goal.decreases-loop-rest
decreases-loop-rest l = left_of (option_copied l.rest)
