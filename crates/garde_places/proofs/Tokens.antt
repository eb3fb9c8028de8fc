-- The tokens of a line of JSON, written one after another.
use Rattle.std.proofs.Common.{◌≡◌, List, [], ◌∷◌, ◌++◌, Result, Ok, Err, IsOk, refl, ap, ◌∙◌, append_assoc}
use Rattle.json.specs.Token.{Token}
use Rattle.json.specs.Tree.{members_tokens}
use Rattle.json.specs.Written.{Written, Writes}
use Rattle.garde_problem.specs.Coded.{Parts}
use Rattle.garde_problem.specs.Problem.{AreWritten, parts_members, parts_tokens}

-- a call that wrote one token
pub wrote : {E : Type 0} (r : Result (Unit {0}) E) (old new : Written) (t : Token) → IsOk r → Writes r old new t → AreWritten (t ∷ []) old new
wrote (Ok done) old new t is written = record { before = written.room.0; tokens = written.ok }
wrote (Err error) old new t is written = cc

-- tokens behind tokens
pub and_then : (ts us : List Token) (a b c : Written) → AreWritten ts a b → AreWritten us b c → AreWritten (ts ++ us) a c
and_then ts us a b c first second = record {
  before = second.before ∙ first.before;
  tokens = second.tokens ∙ ap (λ (written : List Token). written ++ us) first.tokens ∙ append_assoc a.tokens ts us;
}

-- the same tokens in another way
pub known_as : (ts us : List Token) (a b : Written) → ts ≡ us → AreWritten ts a b → AreWritten us a b
known_as ts us a b same written = record {
  before = written.before;
  tokens = written.tokens ∙ ap (λ (tokens : List Token). a.tokens ++ tokens) same;
}

-- the members of a message, and the end of their object
pub ended_parts : (m : Parts) → parts_tokens m ++ Token.end_object ∷ [] ≡ members_tokens (parts_members m)
ended_parts m = refl
