use Rattle.std.proofs.Common.{◌≡◌, ◌++◌}
use Rattle.garde_json.specs.Json.{entry_json}
use Rattle.garde_json.specs.First.{entries_json}
use Rattle.garde_json.specs.Tokens.{tree_tokens, rest_tokens}
use Rattle.garde_json.proofs.text.write_entries.Given as goal

-- the tokens so far and those of what is left are those of the array
abbrev pub invariant-loop-path : goal.invariant-loop-path
invariant-loop-path l = record {
  before : l.out.before ≡ l.fn.out.before;
  tokens : l.out.tokens ++ rest_tokens entry_json l.path-iterator ≡ l.fn.out.tokens ++ tree_tokens (entries_json l.report);
}
