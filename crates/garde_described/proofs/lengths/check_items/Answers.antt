use Rattle.std.proofs.Common.{length, sym, ◌∙◌}
use Rattle.garde.specs.Fields.{between, count, is}
use Rattle.garde_described.proofs.Lemmas.{of_none}
use Rattle.garde_described.specs.Keywords.{of}
use Rattle.garde_described.proofs.lengths.check_items.Goals as goal

pub returns-in-None : goal.returns-in-None
returns-in-None g c = of_none (λ ys. of (λ b. is (count (between b.min b.max) (length ys))) c.args.bounds) _ (sym c.items.ensures.value ∙ c.in-None.is)
