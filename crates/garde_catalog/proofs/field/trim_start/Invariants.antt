use Rattle.std.proofs.Common.{◌≡◌, length}
use Rattle.garde_catalog.specs.Field.{skip_space}
use Rattle.garde_catalog.proofs.field.trim_start.Given as goal

abbrev pub invariant-loop-bytes : goal.invariant-loop-bytes
invariant-loop-bytes l = skip_space l.bytes ≡ skip_space l.fn.bytes

abbrev pub decreases-loop-bytes : goal.decreases-loop-bytes
decreases-loop-bytes l = length l.bytes
