use Rattle.std.proofs.Common.{◌≡◌, length}
use Rattle.garde_described.specs.Faults.{first_named}
use Rattle.garde_described.proofs.reference.first_named.Given as goal

-- the first of what is left is the first of all
abbrev pub invariant-loop-name : goal.invariant-loop-name
invariant-loop-name l = first_named l.text l.left ≡ first_named l.text l.initial.left

abbrev pub decreases-loop-name : goal.decreases-loop-name
decreases-loop-name l = length l.left
