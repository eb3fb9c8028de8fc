use Rattle.std.proofs.Common.{◌≡◌, ◌++◌, length}
use Rattle.json.specs.Json.{object}
use Rattle.json.specs.Tree.{json_tokens, members_tokens}
use Rattle.garde_problem.specs.Coded.{params_in}
use Rattle.garde_problem.specs.Problem.{params_members}
use Rattle.garde_places.proofs.json_line.write_params.Given as goal

-- the tokens so far and those of the parameters that are left are those of the whole object
abbrev pub invariant-loop-name : goal.invariant-loop-name
invariant-loop-name l = record {
  before : l.out.before ≡ l.fn.out.before;
  tokens : l.out.tokens ++ members_tokens (params_members (params_in l.params.text.now))
      ≡ l.fn.out.tokens ++ json_tokens (object (params_members (params_in l.fn.params.text.now)));
}

abbrev pub decreases-loop-name : goal.decreases-loop-name
decreases-loop-name l = length l.params.text.now
