use Rattle.std.proofs.Common.{codes}
use Rattle.json.specs.Json as json
use Rattle.garde_json.specs.First.{entries_json}
use Rattle.garde_json.specs.Form.{spelled}
use Rattle.garde_json.proofs.Listed.{no_errors, reads_inside, same_value}
use Rattle.garde_json.proofs.read.report_in.Goals as goal

pub returns-clause-read : goal.returns-clause-read
returns-clause-read c =
    reads_inside (spelled entries_json) (λ errors. json.object (json.member (codes "errors") errors json.no_members)) _ c.in_ok-errors.errors c.faults_in.result
    (same_value (codes "errors")) (c.in_ok-errors.ensures {u = tt}) c.faults_in.ensures.read

pub returns-clause-empty : goal.returns-clause-empty
returns-clause-empty c = λ none. c.faults_in.ensures.empty (no_errors _ c.in_ok-errors.errors (c.in_ok-errors.ensures {u = tt}) none)
