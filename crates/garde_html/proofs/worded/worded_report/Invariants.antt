use Rattle.std.proofs.Common.{◌≡◌, ◌++◌, map, take}
use Rattle.garde_report.specs.Report.{Entry}
use Rattle.garde_html.specs.Worded.{worded_entry}
use Rattle.garde_html.proofs.worded.worded_report.Given as goal

-- what is told, and then the faults to come, are all
abbrev pub invariant-loop-path : goal.invariant-loop-path
invariant-loop-path g l =
    l.told ++ map (λ (e : Entry). worded_entry (g.H.I18n.text l.h) l.fields l.typed e) l.path-iterator
    ≡ map (λ (e : Entry). worded_entry (g.H.I18n.text l.h) l.fields l.typed e) (take 100 l.report)
