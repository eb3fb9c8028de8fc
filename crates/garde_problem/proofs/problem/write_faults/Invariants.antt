use Rattle.std.proofs.Common.{◌≡◌, ◌++◌}
use Rattle.json.specs.Json.{array}
use Rattle.json.specs.Tree.{json_tokens, items_tokens}
use Rattle.garde_problem.specs.Problem.{faults_json}
use Rattle.garde_problem.proofs.problem.write_faults.Given as goal

-- the tokens so far and those of the faults that are left are those of the whole array
abbrev pub invariant-loop-path : goal.invariant-loop-path
invariant-loop-path l = record {
  before : l.out.before ≡ l.fn.out.before;
  tokens : l.out.tokens ++ items_tokens (faults_json l.path-iterator)
      ≡ l.fn.out.tokens ++ json_tokens (array (faults_json l.report));
}
