use Rattle.std.proofs.Common.{Some, ap, sym, ◌∙◌}
use Rattle.garde_described.proofs.Lemmas.{told_as}
use Rattle.garde_described.specs.Faults.{definition_of}
use Rattle.garde_described.specs.Links.{target_links}
use Rattle.std.specs.Prelude.{if◌then◌else◌}
use Rattle.garde_described.proofs.leads.check_target.Goals as goal

pub returns-in-None : goal.returns-in-None
returns-in-None g c = told_as (ap (target_links c.args.root.now) (sym (ap (λ b. if b then Some c.args.root.now else definition_of c.args.root.now c.args.text.now) (sym c.eq.ensures ∙ c.if-eq.false) ∙ (sym c.definition.ensures ∙ c.in-None.is)))) c.ask.ensures
