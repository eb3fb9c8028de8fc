use Rattle.garde_parsed.proofs.Options.{none_of}
use Rattle.garde_parsed.proofs.uuids.UuidTextType.read.Goals as goal

pub returns-in-Err : goal.returns-in-Err
returns-in-Err c = none_of _ (λ u is. let wrong = c.in-Err.ensures.ok.1 (u, is) in cc)
