use Rattle.garde_schema.proofs.RulesOnValue.{not_asked}
use Rattle.garde_schema.specs.Maps.{each_key, names_of}
use Rattle.garde_schema.proofs.keys.ask_names.Goals as goal

pub returns-in-None : goal.returns-in-None
returns-in-None g c = not_asked (λ v. each_key (λ name. g.R.Rules.asks c.args.rules.now name) (names_of v)) _ c.in-None.is
