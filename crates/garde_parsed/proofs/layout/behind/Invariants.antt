use Rattle.std.proofs.Common.{◌≡◌, ◌≤◌, ◌-◌, drop, length}
use Rattle.garde_parsed.specs.Layouts.{behind}
use Rattle.garde_parsed.proofs.layout.behind.Given as goal

-- what stands behind the shape that is left is what stands behind the whole of it
abbrev pub invariant-loop-at : goal.invariant-loop-at
invariant-loop-at l = (behind (drop l.at l.shape) (drop l.at l.text) ≡ behind l.shape l.text) × (l.at ≤ length l.shape) × (l.at ≤ length l.text)

abbrev pub decreases-loop-at : goal.decreases-loop-at
decreases-loop-at l = length l.shape - l.at
