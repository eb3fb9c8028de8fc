use Rattle.garde.specs.Fields.{between, count, is}
use Rattle.garde_described.proofs.Lemmas.{of_none}
use Rattle.garde_described.proofs.lengths.check_count.Goals as goal

pub returns-in-None : goal.returns-in-None
returns-in-None g c = of_none (λ b. is (count (between b.min b.max) c.args.number.0)) c.args.bounds c.in-None.is
