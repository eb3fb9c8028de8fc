use Rattle.garde.specs.Fields.{between, chars, is}
use Rattle.garde_described.proofs.Lemmas.{of_none}
use Rattle.garde_described.proofs.lengths.check_text.Goals as goal

pub returns-in-None : goal.returns-in-None
returns-in-None g c = of_none (λ b. is (chars (between b.min b.max) c.args.text.now)) c.args.bounds c.in-None.is
