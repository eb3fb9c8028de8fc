use Rattle.std.proofs.Common.{◌≡◌, List, length}
use Rattle.std.specs.Prelude.{IfOk}
use Rattle.garde_json.specs.Json.{entry_json}
use Rattle.garde_report.specs.Report.{Entry}
use Rattle.garde_json.proofs.Taken.{Goes}
use Rattle.garde_json.proofs.stream.next_entries.Given as goal

-- the faults so far, and what is still to come; the report has those so far
abbrev pub invariant-entries : goal.invariant-entries
invariant-entries l = (entries : List Entry) × Goes entry_json entries l.initial.reader l.reader × IfOk l.report (λ report. report ≡ entries)

abbrev pub decreases-entries : goal.decreases-entries
decreases-entries l = length l.reader
