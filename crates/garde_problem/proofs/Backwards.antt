-- Components that are taken from the back of a list that is turned round.
use Rattle.std.proofs.Common.{◌≡◌, List, [], ◌∷◌, ◌++◌, reverse, sym, ap, ◌∙◌}
use Rattle.std.proofs.lemmas.List.{reverse-append, reverse-reverse}

-- one item less is left
pub turned_more : {X : Type 0} (old new : List X) (x : X) → old ≡ new ++ x ∷ [] → reverse old ≡ x ∷ reverse new
turned_more old new x taken = ap reverse taken ∙ reverse-append new (x ∷ [])

-- the first item, and what is left
pub turned_first : {X : Type 0} (xs old new : List X) (x : X) → old ≡ reverse xs → old ≡ new ++ x ∷ [] → xs ≡ x ∷ reverse new
turned_first xs old new x turned taken = sym (reverse-reverse xs) ∙ ap reverse (sym turned) ∙ turned_more old new x taken
