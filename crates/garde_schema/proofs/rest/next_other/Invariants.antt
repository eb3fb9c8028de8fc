use Rattle.std.proofs.Common.{◌≡◌, length}
use Rattle.garde_schema.specs.Flattened.{others}
use Rattle.garde_schema.proofs.rest.next_other.Given as goal

-- the members before are asked for
abbrev pub invariant-loop-name : goal.invariant-loop-name
invariant-loop-name g l = others (λ name. g.M.Members.names l.named name) l.left ≡ others (λ name. g.M.Members.names l.named name) l.initial.left

abbrev pub decreases-loop-name : goal.decreases-loop-name
decreases-loop-name g l = length l.left
