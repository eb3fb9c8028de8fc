use Rattle.std.proofs.Common.{◌≡◌, ◌++◌, map}
use Rattle.serde_json.specs.View.{view}
use Rattle.garde_json.specs.Json.{entry_json}
use Rattle.garde_json.proofs.value.report.report_to_json.Given as goal

-- the items so far and the trees of what is left are those of the report
abbrev pub invariant-loop-path : goal.invariant-loop-path
invariant-loop-path l = map view l.errors.items ++ map entry_json l.path-iterator ≡ map entry_json l.report
