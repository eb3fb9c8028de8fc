use Rattle.std.proofs.Common.{◌≤◌, length}
use Rattle.garde_tape.specs.Nesting.{most_nested}
use Rattle.garde_tape.proofs.fault.too_deep_at.Given as goal

abbrev pub invariant-loop-token : goal.invariant-loop-token
invariant-loop-token l = record {
  shallow : l.depth ≤ 128;
  left : most_nested l.depth l.reader ≤ most_nested 0 l.fn.reader;
}

abbrev pub decreases-loop-token : goal.decreases-loop-token
decreases-loop-token l = length l.reader
