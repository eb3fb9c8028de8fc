use Rattle.std.proofs.Common.{◌≡◌, ℕ, List, ◌++◌}
use Rattle.std.specs.Fmt.{HasWritten, IsPlainFormatter}
use Rattle.garde_problem.specs.Escaped.{escaped_report_text}
use Rattle.garde_problem.proofs.escaped.EscapedReportDisplay.fmt.Given as goal

-- what is written, and then the lines to come, are the whole text
abbrev pub invariant-loop-path : goal.invariant-loop-path
invariant-loop-path g l =
    IsPlainFormatter l.initial.f
    → ((written : List ℕ) × HasWritten g.W.Write.write_str_gives l.initial.f written l.f
    × (written ++ escaped_report_text l.path-iterator ≡ escaped_report_text l.self.1.now))
