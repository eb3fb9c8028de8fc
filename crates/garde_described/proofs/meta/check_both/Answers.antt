use Rattle.std.proofs.Common.{rules}
use Rattle.garde.proofs.Author.{visited_stop, visited_then}
use Rattle.garde_described.proofs.meta.check_both.Goals as goal

pub returns-in_err-check : goal.returns-in_err-check
returns-in_err-check g c = visited_stop _ _ c.check.ensures (search rules) c.from_residual.ensures.0

pub returns : goal.returns
returns g c = visited_then _ _ c.check.ensures (search rules) c.check_links.ensures
