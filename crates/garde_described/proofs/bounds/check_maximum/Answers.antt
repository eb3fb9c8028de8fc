use Rattle.std.proofs.Common.{ap, rules}
use Rattle.garde.proofs.Author.{visited_stop, visited_then}
use Rattle.garde_described.proofs.Lemmas.{told_as}
use Rattle.garde_described.specs.Links.{not_crossed}
use Rattle.garde_described.proofs.bounds.check_maximum.Goals as goal

pub returns-in_err-check_number : goal.returns-in_err-check_number
returns-in_err-check_number g c = visited_stop _ _ c.check_number.ensures (search rules) c.from_residual.ensures.0

pub returns : goal.returns
returns g c = visited_then _ _ c.check_number.ensures (search rules) (told_as (ap not_crossed c.numbers_cross-crossed.ensures) c.check_crossed.ensures)
