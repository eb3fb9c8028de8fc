use Rattle.std.proofs.Common.{ap, sym, ◌∙◌}
use Rattle.std.specs.Prelude.{option_map}
use Rattle.garde.specs.Fields.{between, chars, is}
use Rattle.garde_described.proofs.Lemmas.{of_none}
use Rattle.garde_described.specs.Keywords.{of}
use Rattle.garde_described.proofs.lengths.check_chars.Goals as goal

pub returns-in-None : goal.returns-in-None
returns-in-None g c = of_none (λ s. of (λ b. is (chars (between b.min b.max) s)) c.args.bounds) _ (sym c.as_str.ensures ∙ ap (option_map (λ s. s.now)) c.in-None.is)
