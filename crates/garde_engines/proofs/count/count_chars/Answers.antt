use Rattle.std.proofs.Common.{◌∙◌}
use Rattle.garde_engines.proofs.Starts.{start_count}
use Rattle.garde_engines.proofs.count.count_chars.Goals as goal

pub returns : goal.returns
returns c = rw c.as_bytes.ensures.value at c.count_outside.ensures ∙ start_count c.args.text.now c.utf8.text
