use Rattle.std.specs.Bool.{one_answer}
use Rattle.garde_engines.proofs.IpCuts.{ipv4_text_decides}
use Rattle.garde_engines.proofs.addresses.v4.reads_ipv4.Goals as goal

pub returns-in-Some-clause-value : goal.returns-in-Some-clause-value
returns-in-Some-clause-value c =
    let last = c.in-Some.ensures in
    let octet = c.is_octet.ensures in
    one_answer _ _ ((λ h. last.0 (octet.0 h)), (λ i. octet.1 (last.1 i))) (ipv4_text_decides c.args.bytes.now)

pub returns-in-None-clause-value : goal.returns-in-None-clause-value
returns-in-None-clause-value c = one_answer _ _ ((λ h. cc), (λ i. absurd (c.in-None.ensures i))) (ipv4_text_decides c.args.bytes.now)
