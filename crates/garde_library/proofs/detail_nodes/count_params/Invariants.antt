use Rattle.std.proofs.Common.{◌≡◌, ◌+◌, length}
use Rattle.garde_problem.specs.Coded.{params_in}
use Rattle.garde_library.proofs.detail_nodes.count_params.Given as goal

-- those that are counted and those that are left are all
abbrev pub invariant-loop-param : goal.invariant-loop-param
invariant-loop-param l = l.count + length (params_in l.left.text.now) ≡ length (params_in l.fn.params.text.now)

abbrev pub decreases-loop-param : goal.decreases-loop-param
decreases-loop-param l = length l.left.text.now
