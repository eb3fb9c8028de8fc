-- What the conditions over the items of a list say of the items.
use Rattle.std.proofs.Common.{◌≡◌, ◌∙◌, refl, sym, arith, true, false, suc, zero, get_or, length}
use Rattle.std.specs.Prelude.{ℕ, ◌<◌, ◌↔◌, Bool, List, [], ◌∷◌}
use Rattle.std.specs.List.{All, Any, list_any}
use Rattle.std.proofs.lemmas.Bool.{and_from, and_parts, not-true, not_from_false}
use Rattle.std.proofs.lemmas.List.Folds.{list_any_at, list_any_none, Any-from_list_any, list_any-from_Any}
use Rattle.std.proofs.lemmas.List.Sums.{AllPass-from_list_all, list_all-from_AllPass}
use Rattle.garde.specs.OverLists.{all_of, any_of, distinct, AreApart}

pub all_of_says : {A : Type 0} (holds : A → Bool) (xs : List A) → (all_of holds xs ≡ true) ↔ All (λ x. holds x ≡ true) xs
all_of_says holds xs = (AllPass-from_list_all holds xs, list_all-from_AllPass holds xs)

pub any_of_says : {A : Type 0} (holds : A → Bool) (xs : List A) → (any_of holds xs ≡ true) ↔ Any (λ x. holds x ≡ true) xs
any_of_says holds xs = (Any-from_list_any holds xs, list_any-from_Any holds xs)

-- where no item passes, this one does not
none_passes : {A : Type 0} (p : A → Bool) (xs : List A) → list_any p xs ≡ false → (i : ℕ) (d : A) → i < length xs → p (get_or xs i d) ≡ false
none_passes p xs none i d within = elim (p (get_or xs i d)) as (λ b. p (get_or xs i d) ≡ b → b ≡ false) [
  | true ↦ λ passes. sym (list_any_at p xs i d within passes) ∙ none
  | false ↦ λ _. refl
] refl

tells : {A : Type 0} (same : A → A → Bool) (x : A) (xs : List A) → (distinct same xs ≡ true → AreApart same xs) → distinct same (x ∷ xs) ≡ true → AreApart same (x ∷ xs)
tells same x xs rest h i zero d before within = absurd (omega arith)
tells same x xs rest h zero (suc j) d before within = none_passes (same x) xs (not-true _ (and_parts _ _ h).0) j d (omega arith)
tells same x xs rest h (suc i) (suc j) d before within = rest (and_parts _ _ h).1 i j d (omega arith) (omega arith)

told : {A : Type 0} (same : A → A → Bool) (x : A) (xs : List A) → (AreApart same xs → distinct same xs ≡ true) → AreApart same (x ∷ xs) → distinct same (x ∷ xs) ≡ true
told same x xs rest h =
    let none : list_any (same x) xs ≡ false = list_any_none (same x) xs (λ i d within. h 0 (suc i) d (omega arith) (omega arith)) in
    let others : distinct same xs ≡ true = rest (λ i j d before within. h (suc i) (suc j) d (omega arith) (omega arith)) in
    and_from _ _ (not_from_false _ none) others

pub distinct_says : {A : Type 0} (same : A → A → Bool) (xs : List A) → (distinct same xs ≡ true) ↔ AreApart same xs
distinct_says same [] = (λ _ i j d before within. absurd (omega arith), λ _. refl)
distinct_says same (x ∷ xs) = (tells same x xs (distinct_says same xs).0, told same x xs (distinct_says same xs).1)
