-- What is read of the tokens that are still to come.
use Rattle.std.specs.Prelude.{◌≡◌, ◌≢◌, List, [], ◌∷◌, ◌++◌, Bool, true, false, Option, Result, IfOk, MatchOption}
use Rattle.std.specs.declared.alloc.AllocError.{AllocError}
use Rattle.json.specs.Token.{Token}
use Rattle.serde_json.specs.Data.{Data}
use Rattle.garde_json.specs.Tokens.{tree_tokens}

-- whether this token was the next one, and was taken
abbrev pub Takes : Token → List Token → List Token → Bool → Type 0
Takes t old new true = old ≡ t ∷ new
Takes t old new false = (rest : List Token) → old ≢ t ∷ rest

-- What is read of the tokens: none where no written form is next, else the next one, which is told where there was memory for it.
abbrev pub ReadsNext : {X : Type 0} → (X → Data) → List Token → List Token → Option (Result X AllocError) → Type 0
ReadsNext {X} tree old new result = MatchOption result ((x : X) (rest : List Token) → old ≢ tree_tokens (tree x) ++ rest)
    (λ made. (x : X) × (old ≡ tree_tokens (tree x) ++ new) × IfOk made (λ read. read ≡ x))

-- whether no token is left
abbrev pub Ends : List Token → Bool → Type 0
Ends old true = old ≡ []
Ends old false = old ≢ []
