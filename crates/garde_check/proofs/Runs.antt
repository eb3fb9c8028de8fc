-- What a run takes of its reader.
use Rattle.std.proofs.Common.{◌≡◌, ℕ, List, [], ◌++◌, IfSome, sym, ap, ◌∙◌, append-nil}
use Rattle.std.proofs.KnownBytes.{Consumes-trans, Consumes-whole}
use Rattle.std.specs.Prelude.{Option}
use Rattle.std.specs.Io.KnownBytes.{Consumes, IsAtEnd}

-- a reader that is at its end gave all
pub gave_all : (a b d : Option (List ℕ)) (xs ys : List ℕ) → Consumes a b xs → Consumes b d ys → ys ≡ [] → IsAtEnd d → IfSome a (λ all. xs ≡ all)
gave_all a b d xs ys first then none end =
    Consumes-whole a d (xs ++ ys) (λ all. xs ≡ all) (Consumes-trans a b d xs ys first then) end (sym (ap (λ l. xs ++ l) none ∙ append-nil xs))
