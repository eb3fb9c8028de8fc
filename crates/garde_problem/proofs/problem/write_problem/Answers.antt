use Rattle.std.proofs.Common.{[], ◌∷◌, codes, decimal, refl, ap}
use Rattle.json.specs.Json.{array}
use Rattle.json.specs.Token.{begin_object, end_object, key, string, number}
use Rattle.json.specs.Tree.{json_tokens}
use Rattle.garde_problem.specs.Problem.{AreWritten, optional_tokens, faults_json}
use Rattle.garde_problem.proofs.Tokens.{one_token, then_tokens, as_tokens, problem_tokens}
use Rattle.garde_problem.proofs.problem.write_problem.Goals as goal

-- the tokens of the object, one member after another
pub returns : goal.returns
returns c =
    let p = c.args.problem.now in
    let begun : AreWritten (begin_object ∷ []) c.args.out.now c.begin_object.new.self = one_token _ _ _ _ refl c.in_ok-begin_object.ensures in
    let type_uri : AreWritten (optional_tokens (codes "type") p.type_uri) c.begin_object.new.self c.write_optional.new.out = c.in_ok-write_optional.ensures in
    let title : AreWritten (key (codes "title") ∷ string p.title.now ∷ []) c.write_optional.new.out c.write_member.new.out = c.in_ok-write_member.ensures in
    let status : AreWritten (key (codes "status") ∷ []) c.write_member.new.out c.key.new.self = one_token _ _ _ _ refl c.in_ok-key.ensures in
    let code : AreWritten (number (decimal p.status) ∷ []) c.key.new.self c.u64.new.self =
    as_tokens _ _ _ _ (ap (λ n. number (decimal n) ∷ []) c.from.ensures) (one_token _ _ _ _ refl c.in_ok-u64.ensures) in
    let detail : AreWritten (optional_tokens (codes "detail") p.detail) c.u64.new.self c.write_optional-2.new.out = c.in_ok-write_optional-2.ensures in
    let instance : AreWritten (optional_tokens (codes "instance") p.instance) c.write_optional-2.new.out c.write_optional-3.new.out = c.in_ok-write_optional-3.ensures in
    let errors : AreWritten (key (codes "errors") ∷ []) c.write_optional-3.new.out c.key-2.new.self = one_token _ _ _ _ refl c.in_ok-key-2.ensures in
    let faults : AreWritten (json_tokens (array (faults_json c.args.report.now))) c.key-2.new.self c.write_faults.new.out = c.in_ok-write_faults.ensures in
    let ended : AreWritten (end_object ∷ []) c.write_faults.new.out c.end_object.new.self = one_token _ _ _ _ refl c.in_ok-end_object.ensures in
    as_tokens _ _ _ _ (problem_tokens p c.args.report.now) (
    then_tokens _ _ _ _ _ begun (then_tokens _ _ _ _ _ type_uri (then_tokens _ _ _ _ _ title (then_tokens _ _ _ _ _ status
    (then_tokens _ _ _ _ _ code (then_tokens _ _ _ _ _ detail (then_tokens _ _ _ _ _ instance (then_tokens _ _ _ _ _ errors
    (then_tokens _ _ _ _ _ faults ended))))))))
    )
