use Rattle.garde_engines.proofs.IpCuts.{ip_text_decides}
use Rattle.garde_engines.proofs.laws.addresses.Goals as goal

pub returns : goal.returns
returns c = ip_text_decides
