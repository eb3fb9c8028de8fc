use Rattle.std.proofs.Common.{◌≡◌, ◌≤◌, ◌-◌, drop, length}
use Rattle.garde_parsed.specs.Layouts.{behind_digits}
use Rattle.garde_parsed.proofs.layout.behind_digits.Given as goal

-- what stands behind the digits that are left is what stands behind all of them
abbrev pub invariant-loop-at : goal.invariant-loop-at
invariant-loop-at l = (behind_digits (drop l.at l.text) ≡ behind_digits l.text) × (l.at ≤ length l.text)

abbrev pub decreases-loop-at : goal.decreases-loop-at
decreases-loop-at l = length l.text - l.at
