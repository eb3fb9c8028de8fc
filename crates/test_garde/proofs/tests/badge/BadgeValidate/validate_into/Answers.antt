use Rattle.std.proofs.Common.{refl}
use Rattle.garde.proofs.Visiting.{visited_under, visited_full, visited_found}
use Rattle.test_garde.proofs.tests.badge.BadgeValidate.validate_into.Goals as goal

pub returns-in_err-push : goal.returns-in_err-push
returns-in_err-push g c = visited_full _ _ refl c.in_err-push.ensures.err c.in_err-push.ensures.full c.from_residual.ensures.0

pub returns : goal.returns
returns g c = visited_under _ _ c.push.ensures.valid (rw c.key.ensures at c.in_ok-push.ensures.ok) (visited_found _ _ c.put-outcome.ensures.valid c.apply-answer.ensures.found c.put-outcome.ensures.ok c.put-outcome.ensures.err c.put-outcome.ensures.unchanged) c.pop.ensures
