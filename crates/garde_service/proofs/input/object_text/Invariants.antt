use Rattle.std.proofs.Common.{◌≡◌, ◌++◌, [], drop}
use Rattle.json.specs.Json.{object}
use Rattle.json.specs.Tree.{json_tokens, members_tokens}
use Rattle.garde_form.specs.WebForm.{field_texts}
use Rattle.garde_problem.specs.Problem.{params_members}
use Rattle.garde_service.proofs.input.object_text.Given as goal

-- the tokens so far and those of the fields that are left are those of the whole object
abbrev pub invariant-loop-name : goal.invariant-loop-name
invariant-loop-name l = record {
  before : l.out.before ≡ [];
  tokens : l.out.tokens ++ members_tokens (params_members (field_texts (drop l.name-index l.fields)))
      ≡ json_tokens (object (params_members (field_texts l.fields)));
}
