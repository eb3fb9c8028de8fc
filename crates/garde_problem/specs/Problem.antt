-- The problem details of a report (RFC 9457).
use Rattle.std.specs.Prelude.{◌≡◌, ℕ, List, [], ◌∷◌, ◌++◌, Option, Some, None, codes}
use Rattle.std.specs.Borrow.{Bor}
use Rattle.std.specs.Fmt.{decimal}
use Rattle.json.specs.Json.{Json, string, number, array, object, Items, no_items, item, Members, no_members, member}
use Rattle.json.specs.Print.{print}
use Rattle.json.specs.Token.{Token}
use Rattle.json.specs.Tree.{json_tokens}
use Rattle.json.specs.Written.{Written}
use Rattle.garde_report.specs.Report.{Entry}
use Rattle.garde_problem.specs.Coded.{Param, Parts, message_parts}
use Rattle.garde_problem.specs.Pointer.{path_pointer}
use Rattle.garde_problem.specs.declared.problem.Problem.{Problem}

-- a member with a text in front of others, if there is a text
abbrev pub member_if : List ℕ → Option (Bor (List ℕ)) → Members → Members
member_if name None others = others
member_if name (Some text) others = member name (string text.now) others

-- parameters as members with their texts
abbrev pub params_members : List Param → Members
params_members [] = no_members
params_members (p ∷ ps) = member p.0 (string p.1) (params_members ps)

-- what a message has: the sentence, the code and the parameters
abbrev pub parts_members : Parts → Members
parts_members m =
    member (codes "detail") (string m.detail)
    (member (codes "code") (string m.code)
    (member (codes "params") (object (params_members m.params)) no_members))

-- a fault: the pointer to the place, and what its message has
abbrev pub fault_json : Entry → Json
fault_json e = object (member (codes "pointer") (string (path_pointer e.0)) (parts_members (message_parts e.1)))

-- the faults in order
abbrev pub faults_json : List Entry → Items
faults_json [] = no_items
faults_json (e ∷ es) = item (fault_json e) (faults_json es)

-- the members of RFC 9457 in the order of its section 3.1, then `errors`
abbrev pub problem_json : Problem → List Entry → Json
problem_json p entries = object (
    member_if (codes "type") p.type_uri
    (member (codes "title") (string p.title.now)
    (member (codes "status") (number (decimal p.status))
    (member_if (codes "detail") p.detail
    (member_if (codes "instance") p.instance
    (member (codes "errors") (array (faults_json entries)) no_members))))))

-- the tokens of such a member
abbrev pub optional_tokens : List ℕ → Option (Bor (List ℕ)) → List Token
optional_tokens name None = []
optional_tokens name (Some text) = Token.key name ∷ Token.string text.now ∷ []

-- the tokens of the members of a message
abbrev pub parts_tokens : Parts → List Token
parts_tokens m =
    Token.key (codes "detail") ∷ Token.string m.detail ∷ Token.key (codes "code") ∷ Token.string m.code
    ∷ Token.key (codes "params") ∷ json_tokens (object (params_members m.params))

-- the compact text of a JSON value
abbrev pub json_text : Json → List ℕ
json_text value = print (json_tokens value)

-- these tokens were written behind those that stood there
pub record AreWritten (ts : List Token) (old new : Written) : Type 0 where
  pub before : new.before ≡ old.before
  pub tokens : new.tokens ≡ old.tokens ++ ts
