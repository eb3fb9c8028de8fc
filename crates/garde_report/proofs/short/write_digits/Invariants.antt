use Rattle.std.proofs.Common.{◌≡◌, ◌≤◌, ◌++◌, drop, length}
use Rattle.std.specs.Fmt.{decimal}
use Rattle.garde_report.proofs.short.write_digits.Given as goal

-- the digits from `start` on are the last ones, and there is room for those of the rest
abbrev pub invariant-loop-rest : goal.invariant-loop-rest
invariant-loop-rest l = record {
  within : l.start ≤ 20;
  room : length (decimal l.rest) ≤ l.start;
  long : length l.digits ≡ 20;
  written : decimal l.rest ++ drop l.start l.digits ≡ decimal l.fn.number;
}

abbrev pub decreases-loop-rest : goal.decreases-loop-rest
decreases-loop-rest l = l.rest
