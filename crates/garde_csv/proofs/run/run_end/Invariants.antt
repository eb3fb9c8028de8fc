use Rattle.std.proofs.Common.{◌≡◌, ◌<◌, ◌≤◌, ℕ, length, get_or, false}
use Rattle.garde_csv.specs.Quotes.{may_follow}
use Rattle.garde_csv.proofs.run.run_end.Given as goal

abbrev pub invariant-ones : goal.invariant-ones
invariant-ones l = (l.i ≤ length l.text) × ((k : ℕ) → k < l.i → may_follow (get_or l.text k 0) ≡ false)
