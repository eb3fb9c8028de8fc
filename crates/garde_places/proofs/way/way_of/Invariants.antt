use Rattle.std.proofs.Common.{◌≡◌, ◌+◌, ◌≤◌, ◌++◌, map, length, reverse}
use Rattle.garde_report.specs.Part.{item_part}
use Rattle.garde_places.proofs.way.way_of.Given as goal

-- what was taken, and then what is left, are the whole path
abbrev pub invariant-loop-component : goal.invariant-loop-component
invariant-loop-component l =
    (map item_part l.way.items ++ reverse l.left ≡ l.path) × (length l.way.items + length l.left ≤ l.way.capacity)

abbrev pub decreases-loop-component : goal.decreases-loop-component
decreases-loop-component l = length l.left
