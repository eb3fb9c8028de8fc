use Rattle.serde_json.specs.Data.{object, member, no_members}
use Rattle.std.proofs.Common.{codes}
use Rattle.garde_json.specs.First.{entries_json}
use Rattle.garde_json.proofs.Listed.{reads_inside}
use Rattle.garde_json.proofs.ValueItems.{same_value}
use Rattle.garde_json.proofs.value.report.report_in.Goals as goal

pub returns : goal.returns
returns c =
    reads_inside entries_json (λ errors. object (member (codes "errors") errors no_members)) _ _ c.faults_in.result (same_value (codes "errors")) (c.in_ok-errors.ensures {u = tt}) c.faults_in.ensures
