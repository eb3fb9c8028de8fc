use Rattle.std.proofs.Common.{◌≡◌, List, map, take}
use Rattle.std.specs.Prelude.{IfOk}
use Rattle.serde_json.specs.View.{view}
use Rattle.garde_json.specs.Json.{entry_json}
use Rattle.garde_report.specs.Report.{Entry}
use Rattle.garde_json.proofs.value.report.faults_in.Given as goal

-- the items so far are the trees of faults, and the report has these
abbrev pub invariant-loop-entry : goal.invariant-loop-entry
invariant-loop-entry l = (entries : List Entry) × (map view (take l.entry-index l.entry-items) ≡ map entry_json entries) × IfOk l.report (λ report. report ≡ entries)
