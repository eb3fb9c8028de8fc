use Rattle.std.proofs.Common.{refl, rules}
use Rattle.garde.proofs.Author.{visited_then, visited_stop, visited_under, visited_full}
use Rattle.example_types.proofs.recursive.expr.+walk.Goals as goal

pub walk_at-returns-in_err-push : goal.walk_at-returns-in_err-push
walk_at-returns-in_err-push g t c = visited_full _ _ refl c.in_err-push.ensures.err c.in_err-push.ensures.full c.from_residual.ensures.0

pub walk_at-returns : goal.walk_at-returns
walk_at-returns g t c = visited_under _ _ c.push.ensures.valid (rw c.index.ensures at c.in_ok-push.ensures.ok) c.walk-outcome.ensures c.pop.ensures

pub walk-returns-in_err-walk_at-in-Add : goal.walk-returns-in_err-walk_at-in-Add
walk-returns-in_err-walk_at-in-Add g t c = rw c.in-Add.is (visited_stop _ _ (rw c.deref-in-Add.ensures at c.walk_at-in-Add.ensures) (search rules) c.from_residual.ensures.0)

pub walk-returns-in_ok-walk_at-in-Add : goal.walk-returns-in_ok-walk_at-in-Add
walk-returns-in_ok-walk_at-in-Add g t c = rw c.in-Add.is (visited_then _ _ (rw c.deref-in-Add.ensures at c.walk_at-in-Add.ensures) (search rules) (rw c.deref-in-Add-2.ensures at c.walk_at-in-Add-2.ensures))
