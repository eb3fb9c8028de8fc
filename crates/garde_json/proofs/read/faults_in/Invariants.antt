use Rattle.std.proofs.Common.{◌≡◌, [], ◌++◌, List, length, Some}
use Rattle.std.specs.Prelude.{IfOk, IsOk}
use Rattle.garde_json.specs.Json.{entry_json}
use Rattle.garde_report.specs.Report.{Entry}
use Rattle.garde_json.proofs.Listed.{list_of, trees}
use Rattle.garde_json.proofs.read.faults_in.Given as goal

-- the faults so far and the items that are left are those of the list, and the report has those so far
abbrev pub invariant-loop-item : goal.invariant-loop-item
invariant-loop-item l = (entries : List Entry) × (list_of l.tree ≡ Some (trees entry_json entries ++ l.items)) × IfOk l.report (λ report. report ≡ entries) × (entries ≡ [] → IsOk l.report)

abbrev pub decreases-loop-item : goal.decreases-loop-item
decreases-loop-item l = length l.items
