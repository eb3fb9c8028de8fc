use Rattle.std.proofs.Common.{ap, rules}
use Rattle.garde.proofs.Author.{visited_stop, visited_then}
use Rattle.garde_described.proofs.Lemmas.{told_as}
use Rattle.garde_described.specs.Links.{not_crossed}
use Rattle.garde_described.proofs.bounds.check_most.Goals as goal

pub returns-in_err-check_count : goal.returns-in_err-check_count
returns-in_err-check_count g c = visited_stop _ _ c.check_count.ensures (search rules) c.from_residual.ensures.0

pub returns : goal.returns
returns g c = visited_then _ _ c.check_count.ensures (search rules) (told_as (ap not_crossed c.counts_cross-crossed.ensures) c.check_crossed.ensures)
