use Rattle.std.proofs.Common.{rules}
use Rattle.garde_toml.proofs.Spelling.{an_integer}
use Rattle.garde_toml.proofs.write.write_integer.Goals as goal

pub returns : goal.returns
returns c = search (rules, an_integer)
