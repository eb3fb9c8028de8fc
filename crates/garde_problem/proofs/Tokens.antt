-- The tokens of problem details, written one after another.
use Rattle.std.proofs.Common.{◌≡◌, ℕ, List, [], ◌∷◌, ◌++◌, Option, Some, None, Result, Ok, Err, IsOk, codes, decimal, refl, ap, ◌∙◌, append_assoc}
use Rattle.std.specs.Borrow.{Bor}
use Rattle.json.specs.Json.{Members, array, no_members, member, string, number}
use Rattle.json.specs.Token.{Token}
use Rattle.json.specs.Tree.{json_tokens, members_tokens}
use Rattle.json.specs.Written.{Written, Writes}
use Rattle.garde_report.specs.Report.{Entry}
use Rattle.garde_problem.specs.declared.problem.Problem.{Problem}
use Rattle.garde_problem.specs.Coded.{Parts}
use Rattle.garde_problem.specs.Problem.{AreWritten, member_if, optional_tokens, faults_json, parts_members, parts_tokens, problem_json}

-- a call that wrote one token
pub one_token : {E : Type 0} (r : Result (Unit {0}) E) (old new : Written) (t : Token) → IsOk r → Writes r old new t → AreWritten (t ∷ []) old new
one_token (Ok done) old new t is written = record { before = written.room.0; tokens = written.ok }
one_token (Err error) old new t is written = cc

-- tokens behind tokens
pub then_tokens : (ts us : List Token) (a b c : Written) → AreWritten ts a b → AreWritten us b c → AreWritten (ts ++ us) a c
then_tokens ts us a b c first second = record {
  before = second.before ∙ first.before;
  tokens = second.tokens ∙ ap (λ (written : List Token). written ++ us) first.tokens ∙ append_assoc a.tokens ts us;
}

-- the same tokens by another name
pub as_tokens : (ts us : List Token) (a b : Written) → ts ≡ us → AreWritten ts a b → AreWritten us a b
as_tokens ts us a b same written = record {
  before = written.before;
  tokens = written.tokens ∙ ap (λ (tokens : List Token). a.tokens ++ tokens) same;
}

-- a member that may be left out
optional : (name : List ℕ) (text : Option (Bor (List ℕ))) (others : Members) → optional_tokens name text ++ members_tokens others ≡ members_tokens (member_if name text others)
optional name None others = refl
optional name (Some text) others = refl

-- the members of a problem in their order
pub problem_tokens : (p : Problem) (entries : List Entry) →
    Token.begin_object ∷ (optional_tokens (codes "type") p.type_uri
    ++ (Token.key (codes "title") ∷ Token.string p.title.now ∷ Token.key (codes "status") ∷ Token.number (decimal p.status) ∷ (optional_tokens (codes "detail") p.detail
    ++ (optional_tokens (codes "instance") p.instance
    ++ (Token.key (codes "errors") ∷ (json_tokens (array (faults_json entries)) ++ Token.end_object ∷ [])))))) ≡ json_tokens (problem_json p entries)
problem_tokens p entries =
    let errors : Members = member (codes "errors") (array (faults_json entries)) no_members in
    let instance : Members = member_if (codes "instance") p.instance errors in
    let detail : Members = member_if (codes "detail") p.detail instance in
    let head : List Token → List Token = λ rest. Token.key (codes "title") ∷ Token.string p.title.now ∷ Token.key (codes "status") ∷ Token.number (decimal p.status) ∷ rest in
    let front : List Token → List Token = λ rest. Token.begin_object ∷ (optional_tokens (codes "type") p.type_uri ++ head rest) in
    ap (λ (rest : List Token). front (optional_tokens (codes "detail") p.detail ++ rest)) (optional (codes "instance") p.instance errors)
    ∙ ap front (optional (codes "detail") p.detail instance)
    ∙ ap (λ (rest : List Token). Token.begin_object ∷ rest)
    (optional (codes "type") p.type_uri (member (codes "title") (string p.title.now) (member (codes "status") (number (decimal p.status)) detail)))

-- the members of a message, and the end of their object
pub closed_parts : (m : Parts) → parts_tokens m ++ Token.end_object ∷ [] ≡ members_tokens (parts_members m)
closed_parts m = refl
