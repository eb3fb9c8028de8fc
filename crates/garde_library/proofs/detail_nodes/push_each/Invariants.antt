use Rattle.garde_problem.specs.Problem.{faults_json}
use Rattle.garde_library.specs.Nodes.{item_marks}
use Rattle.garde_library.proofs.Adding.{AddedUpTo}
use Rattle.garde_library.proofs.detail_nodes.push_each.Given as goal

-- the faults before this one are added
abbrev pub invariant-loop-path : goal.invariant-loop-path
invariant-loop-path l = AddedUpTo (item_marks (faults_json l.path-iterator)) (item_marks (faults_json l.report)) l.fn.walk l.walk
