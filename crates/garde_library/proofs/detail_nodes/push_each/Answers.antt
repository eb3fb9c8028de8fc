use Rattle.std.proofs.Common.{ap}
use Rattle.garde_problem.specs.Problem.{faults_json}
use Rattle.garde_library.specs.Nodes.{item_marks}
use Rattle.garde_library.proofs.Adding.{added_more}
use Rattle.garde_library.proofs.detail_nodes.push_each.Goals as goal

pub loop-path-preserved : goal.loop-path-preserved
loop-path-preserved c =
    added_more _ (item_marks (faults_json c.loop-path.path-iterator)) (item_marks (faults_json c.next.new.self)) (item_marks (faults_json c.args.report.now)) c.args.walk.now c.loop-path.walk c.push_fault.new.walk
    (ap (λ es. item_marks (faults_json es)) c.in-Some.ensures.steps) c.loop-path.invariant c.in_ok-push_fault.ensures
