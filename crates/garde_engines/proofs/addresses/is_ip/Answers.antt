use Rattle.garde_engines.proofs.IpCuts.{ipv6_decides_any}
use Rattle.garde_engines.proofs.addresses.is_ip.Goals as goal

pub returns-else-is_ipv4-clause-grammar : goal.returns-else-is_ipv4-clause-grammar
returns-else-is_ipv4-clause-grammar c =
    rw c.in-Any.is (ipv6_decides_any _ _ _ c.is_ipv4.ensures.grammar c.is_ipv6.ensures.grammar c.if-is_ipv4.false)

pub returns-in-V6-clause-grammar : goal.returns-in-V6-clause-grammar
returns-in-V6-clause-grammar c = rw c.in-V6.is c.is_ipv6-in-V6.ensures.grammar
