use Rattle.garde_engines.proofs.OctetLemmas.{whole_octet, none_of_octet}
use Rattle.garde_engines.proofs.addresses.v4.is_octet.Goals as goal

pub returns-in-Some : goal.returns-in-Some
returns-in-Some c = whole_octet c.args.bytes.now c.in-Some.rest.now c.is_empty.result c.in-Some.ensures c.is_empty.ensures

pub returns-in-None : goal.returns-in-None
returns-in-None c = ((λ h. cc), (λ i. absurd (none_of_octet c.args.bytes.now c.in-None.ensures i)))
