-- The empty text is no JSON.
use Rattle.std.proofs.Common.{◌≡◌, ℕ, List, [], ◌∷◌, length, None, refl}
use Rattle.json.specs.Lex.{lex, punctuate}
use Rattle.json.specs.Json.{value, document}

pub no_document : (text : List ℕ) → length text ≡ 0 → document text ≡ None
unfolding lex punctuate value
no_document [] e = refl
no_document (x ∷ xs) e = cc
