use Rattle.std.proofs.Common.{◌≡◌, map, length}
use Rattle.garde_report.specs.Report.{messages_under}
use Rattle.garde_report.proofs.error.select_iter.SelectIterator.next.Given as goal

-- what is selected of the faults to come is all that was left
abbrev pub invariant-loop-path : goal.invariant-loop-path
invariant-loop-path l = messages_under (map (λ text. text.now) l.self-inside.way.now) l.self-inside.errors ≡ l.fn.self

abbrev pub decreases-loop-path : goal.decreases-loop-path
decreases-loop-path l = length l.self-inside.errors
