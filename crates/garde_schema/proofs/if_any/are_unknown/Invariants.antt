use Rattle.std.proofs.Common.{◌≡◌, length}
use Rattle.garde_schema.specs.Flattened.{has_none}
use Rattle.garde_schema.proofs.if_any.are_unknown.Given as goal

-- none of the members before is asked for
abbrev pub invariant-loop-name : goal.invariant-loop-name
invariant-loop-name g l = has_none (λ name. g.M.Members.names l.named name) l.left ≡ has_none (λ name. g.M.Members.names l.named name) l.initial.left

abbrev pub decreases-loop-name : goal.decreases-loop-name
decreases-loop-name g l = length l.left
