use Rattle.std.proofs.Common.{◌≡◌, ◌++◌}
use Rattle.test_garde.proofs.tests.parts.joined.Given as goal

-- the faults so far stand behind those of the first report
abbrev pub invariant-loop-path : goal.invariant-loop-path
invariant-loop-path l = l.both ≡ l.initial.both ++ l.yielded
