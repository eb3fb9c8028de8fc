use Rattle.garde_schema.proofs.RulesOnValue.{not_asked}
use Rattle.garde_schema.proofs.checked.ask_value.Goals as goal

pub returns-in-None : goal.returns-in-None
returns-in-None g c = not_asked (λ v. g.R.Rules.asks c.args.rules.now v) _ c.in-None.is
