use Rattle.std.proofs.Common.{ap, sym, ◌∙◌}
use Rattle.std.specs.Prelude.{option_map}
use Rattle.garde_described.proofs.Lemmas.{of_none}
use Rattle.garde_described.proofs.bounds.check_count.Goals as goal

pub returns-in-None : goal.returns-in-None
returns-in-None g c = of_none _ _ (sym c.as_number.ensures ∙ ap (option_map (λ s. s.now)) c.in-None.is)
