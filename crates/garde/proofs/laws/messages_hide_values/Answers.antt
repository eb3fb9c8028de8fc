use Rattle.garde.proofs.Among.{says_only}
use Rattle.garde.proofs.laws.messages_hide_values.Goals as goal

pub returns-clause-found : goal.returns-clause-found
returns-clause-found g c = g.met.R.Discreet.discreet

pub returns-clause-messages : goal.returns-clause-messages
returns-clause-messages g c = says_only g.R.Discreet.may_find g.R.Rule.finds g.met.R.Discreet.discreet
