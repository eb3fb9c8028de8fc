use Rattle.std.proofs.Common.{ap, sym, ◌∙◌}
use Rattle.std.specs.Prelude.{option_map}
use Rattle.garde_described.proofs.Lemmas.{of_none}
use Rattle.garde_described.specs.Faults.{target_of}
use Rattle.garde_described.specs.Links.{target_links}
use Rattle.garde_described.proofs.leads.check_reference.Goals as goal

pub returns-in-None : goal.returns-in-None
returns-in-None g c = of_none (λ text. target_links c.args.root.now (target_of c.args.root.now text)) _ (sym c.as_str.ensures ∙ ap (option_map (λ s. s.now)) c.in-None.is)
