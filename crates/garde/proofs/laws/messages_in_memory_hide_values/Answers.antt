use Rattle.garde.proofs.Among.{says_only_in_memory}
use Rattle.garde.proofs.laws.messages_in_memory_hide_values.Goals as goal

pub returns-clause-found : goal.returns-clause-found
returns-clause-found g c = g.met.R.DiscreetInMemory.discreet

pub returns-clause-messages : goal.returns-clause-messages
returns-clause-messages g c =
    says_only_in_memory g.R.DiscreetInMemory.may_find g.R.MemoryRule.finds g.met.R.DiscreetInMemory.discreet
