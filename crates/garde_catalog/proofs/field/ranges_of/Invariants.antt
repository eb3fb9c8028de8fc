use Rattle.std.proofs.Common.{◌≡◌, ◌++◌, map, option_copied}
use Rattle.garde_catalog.specs.Field.{want_of, wants_in, wants_left}
use Rattle.garde_catalog.proofs.Cutting.{left_of}
use Rattle.garde_catalog.proofs.field.ranges_of.Given as goal

abbrev pub invariant-loop-rest : goal.invariant-loop-rest
invariant-loop-rest l = map want_of l.ranges.items ++ wants_left (option_copied l.rest) ≡ wants_in l.field

abbrev pub decreases-loop-rest : goal.decreases-loop-rest
decreases-loop-rest l = left_of (option_copied l.rest)
