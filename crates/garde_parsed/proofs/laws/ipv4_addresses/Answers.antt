use Rattle.garde_parsed.proofs.AddressLaws.{ipv4_law}
use Rattle.garde_parsed.proofs.laws.ipv4_addresses.Goals as goal

pub returns : goal.returns
returns c = ipv4_law
