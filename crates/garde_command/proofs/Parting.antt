-- The words of a command line, one after the other.
use Rattle.std.proofs.Common.{◌≡◌, ℕ, List, [], ◌∷◌, ◌++◌, map, Option, ap, ◌∙◌}
use Rattle.std.proofs.lemmas.List.{append_assoc, map-append}
use Rattle.garde_command.specs.Word.{spelled}
use Rattle.garde_command.specs.declared.word.Word.{Word}

-- a word behind those so far, in front of what is left
pub pushed : (words : List Word) (word : Word) (rest : List (List ℕ × Option (List ℕ)))
    → map spelled (words ++ word ∷ []) ++ rest ≡ map spelled words ++ spelled word ∷ rest
pushed words word rest = ap (λ made. made ++ rest) (map-append spelled words (word ∷ [])) ∙ append_assoc (map spelled words) (spelled word ∷ []) rest
