use Rattle.std.proofs.Common.{[], ◌∷◌, codes, refl}
use Rattle.json.specs.Json.{object}
use Rattle.json.specs.Token.{key, string}
use Rattle.json.specs.Tree.{json_tokens}
use Rattle.garde_problem.specs.Coded.{seen}
use Rattle.garde_problem.specs.Problem.{AreWritten, params_members}
use Rattle.garde_places.proofs.Tokens.{wrote, and_then}
use Rattle.garde_places.proofs.json_line.write_message.Goals as goal

-- the tokens of the members, one after another
pub returns : goal.returns
returns c =
    let m = seen c.args.message.now in
    let detail : AreWritten (key (codes "detail") ∷ string m.detail ∷ []) c.args.out.now c.write_member.new.out = c.in_ok-write_member.ensures in
    let code : AreWritten (key (codes "code") ∷ string m.code ∷ []) c.write_member.new.out c.write_member-2.new.out = c.in_ok-write_member-2.ensures in
    let name : AreWritten (key (codes "params") ∷ []) c.write_member-2.new.out c.key.new.self = wrote _ _ _ _ refl c.in_ok-key.ensures in
    let params : AreWritten (json_tokens (object (params_members m.params))) c.key.new.self c.write_params.new.out = c.in_ok-write_params.ensures in
    and_then _ _ _ _ _ detail (and_then _ _ _ _ _ code (and_then _ _ _ _ _ name params))
