use Rattle.garde_parsed.proofs.AddressLaws.{ipv6_law}
use Rattle.garde_parsed.proofs.laws.ipv6_addresses.Goals as goal

pub returns : goal.returns
returns c = ipv6_law
