use Rattle.std.proofs.Common.{◌≡◌, ◌≤◌, length, true}
use Rattle.garde_catalog.specs.Field.{are_subtags}
use Rattle.garde_catalog.proofs.field.is_range.Given as goal

abbrev pub invariant-loop-rest : goal.invariant-loop-rest
invariant-loop-rest l = (are_subtags l.is_first l.len l.rest ≡ are_subtags true 0 l.tag) × (l.len ≤ 8)

abbrev pub decreases-loop-rest : goal.decreases-loop-rest
decreases-loop-rest l = length l.rest
