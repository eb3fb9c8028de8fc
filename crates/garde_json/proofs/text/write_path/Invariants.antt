use Rattle.std.proofs.Common.{◌≡◌, ◌++◌, length, reverse}
use Rattle.garde_json.specs.Json.{part_json, path_json}
use Rattle.garde_json.specs.Tokens.{tree_tokens, rest_tokens}
use Rattle.garde_json.proofs.text.write_path.Given as goal

-- the tokens so far and those of what is left are those of the path
abbrev pub invariant-loop-kind : goal.invariant-loop-kind
invariant-loop-kind l = record {
  before : l.out.before ≡ l.fn.out.before;
  tokens : l.out.tokens ++ rest_tokens part_json (reverse l.components) ≡ l.fn.out.tokens ++ tree_tokens (path_json l.path);
}

abbrev pub decreases-loop-kind : goal.decreases-loop-kind
decreases-loop-kind l = length l.components
