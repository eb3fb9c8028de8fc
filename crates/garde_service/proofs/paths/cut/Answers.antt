use Rattle.garde_service.proofs.Segments.{cut_none, cut_some}
use Rattle.garde_service.proofs.paths.cut.Goals as goal

pub returns-in-Some : goal.returns-in-Some
returns-in-Some c = cut_some c.args.path.now (c.in-Some.segment, c.in-Some.rest) c.in-Some.ensures.cases

pub returns-in-None : goal.returns-in-None
returns-in-None c = cut_none c.args.path.now c.in-None.ensures.cases
