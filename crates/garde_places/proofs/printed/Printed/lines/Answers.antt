use Rattle.std.proofs.Common.{◌≡◌, List, [], ◌∷◌, refl, ap, ◌∙◌, length, arith}
use Rattle.std.specs.List.Sorted.{IsPermutation}
use Rattle.std.proofs.lemmas.List.Sorted.{length_permutation}
use Rattle.garde_places.specs.declared.fault.Fault.{Fault}
use Rattle.garde_places.proofs.printed.Printed.lines.Goals as goal
use Rattle.garde_places.proofs.printed.Printed.lines.Goals.{then-not-matches+in_ok-sort_by_place, else-not-matches}

-- no fault is no fault in any order
none_moved : (xs ys : List Fault) → IsPermutation xs ys → xs ≡ [] → ys ≡ []
none_moved xs [] moved none = refl
none_moved xs (y ∷ ys) moved none = absurd (omega (arith, length_permutation xs (y ∷ ys) moved, ap length none))

pub returns-clause-empty : goal.returns-clause-empty
returns-clause-empty c none =
    let sorted : c.if-not-matches.faults.items ≡ [] = elim c.if-not-matches.branch [
      | then-not-matches+in_ok-sort_by_place w ↦ none_moved _ _ (rw (ap (λ v. v.items) w.faults-is) w.sort_by_place.ensures.same) none
      | else-not-matches w ↦ ap (λ v. v.items) w.faults-is ∙ none
    ] in
    c.lines.ensures.empty (c.deref.ensures.value ∙ sorted)
