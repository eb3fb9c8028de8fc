use Rattle.std.proofs.Common.{◌≡◌, ◌<◌, ◌≤◌, ◌-◌, ℕ, length, get_or, false}
use Rattle.garde_csv.specs.Quotes.{may_follow}
use Rattle.garde_csv.proofs.run.end_by_fours.Given as goal

abbrev pub invariant-fours : goal.invariant-fours
invariant-fours l = (l.at ≤ length l.text) × ((k : ℕ) → k < l.at → may_follow (get_or l.text k 0) ≡ false)

abbrev pub decreases-fours : goal.decreases-fours
decreases-fours l = length l.text - l.at
