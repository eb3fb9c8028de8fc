use Rattle.garde.proofs.Among.{says_no_more}
use Rattle.garde.proofs.laws.reports_hide_values.Goals as goal

pub returns-clause-found : goal.returns-clause-found
returns-clause-found g c = g.met.R.DiscreetRules.discreet

pub returns-clause-read : goal.returns-clause-read
returns-clause-read g c = says_no_more
