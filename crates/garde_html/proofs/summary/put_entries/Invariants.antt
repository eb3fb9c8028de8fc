use Rattle.std.proofs.Common.{◌≡◌, ◌++◌}
use Rattle.garde_html.specs.Summary.{entries_pieces}
use Rattle.garde_html.proofs.summary.put_entries.Given as goal

-- what is written, and then the faults to come, are all
abbrev pub invariant-loop-path : goal.invariant-loop-path
invariant-loop-path l =
    l.page ++ entries_pieces l.fields l.path-iterator ≡ l.initial.page ++ entries_pieces l.fields l.report
