use Rattle.std.proofs.Common.{◌∙◌}
use Rattle.std.specs.Bool.{one_answer}
use Rattle.garde_engines.proofs.IpCuts.{ipv6_text_decides}
use Rattle.garde_engines.proofs.Ipv6Lemmas.{ipv6_decides}
use Rattle.garde_engines.proofs.addresses.v6.is_ipv6.Goals as goal

pub returns-clause-grammar : goal.returns-clause-grammar
returns-clause-grammar c = rw c.reads_ipv6.ensures (ipv6_decides c.args.text.now)

pub returns-clause-value : goal.returns-clause-value
returns-clause-value c = c.reads_ipv6.ensures ∙ one_answer _ _ (ipv6_decides c.args.text.now) (ipv6_text_decides c.args.text.now)
