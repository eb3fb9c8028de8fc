use Rattle.std.proofs.Common.{◌∙◌}
use Rattle.std.specs.Net.Grammar.{IsIpv4Text}
use Rattle.garde_parsed.specs.Addresses.{ipv4_of}
use Rattle.garde_parsed.proofs.AddressLaws.{read_by, ipv4_law}
use Rattle.garde_parsed.proofs.ip_addresses.Ipv4TextType.read.Goals as goal

pub returns : goal.returns
returns c = c.ok.ensures.value ∙ read_by IsIpv4Text ipv4_of ipv4_law c.args.text.now c.parse.result c.parse.ensures.value
