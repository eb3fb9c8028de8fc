use Rattle.std.proofs.Common.{length}
use Rattle.garde_problem.specs.Coded.{params_in}
use Rattle.garde_problem.specs.Problem.{params_members}
use Rattle.garde_library.specs.Nodes.{member_marks}
use Rattle.garde_library.proofs.Adding.{AddedUpTo}
use Rattle.garde_library.proofs.detail_nodes.push_pairs.Given as goal

-- the parameters before this one are added
abbrev pub invariant-loop-name : goal.invariant-loop-name
invariant-loop-name l = AddedUpTo (member_marks (params_members (params_in l.left.text.now))) (member_marks (params_members (params_in l.fn.params.text.now))) l.fn.walk l.walk

abbrev pub decreases-loop-name : goal.decreases-loop-name
decreases-loop-name l = length l.left.text.now
