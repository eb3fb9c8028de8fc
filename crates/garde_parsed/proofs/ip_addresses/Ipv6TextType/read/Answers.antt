use Rattle.std.proofs.Common.{◌∙◌}
use Rattle.std.specs.Net.Grammar.{IsIpv6Text}
use Rattle.garde_parsed.specs.Addresses.{ipv6_of}
use Rattle.garde_parsed.proofs.AddressLaws.{read_by, ipv6_law}
use Rattle.garde_parsed.proofs.ip_addresses.Ipv6TextType.read.Goals as goal

pub returns : goal.returns
returns c = c.ok.ensures.value ∙ read_by IsIpv6Text ipv6_of ipv6_law c.args.text.now c.parse.result c.parse.ensures.value
