-- Conditions over the items of a list, for `asks`.
pub use Rattle.garde.specs.Firsts.{AreApart, includes}
use Rattle.std.specs.Prelude.{◌≡◌, ◌↔◌, Bool, true, not, ◌&&◌, List, [], ◌∷◌}
use Rattle.std.specs.List.{All, Any, list_all, list_any}

-- the condition holds of each item
abbrev pub all_of : {A : Type 0} → (A → Bool) → List A → Bool
all_of holds xs = list_all holds xs

-- the condition holds of at least one item
abbrev pub any_of : {A : Type 0} → (A → Bool) → List A → Bool
any_of holds xs = list_any holds xs

-- no item is the same as a later one
abbrev pub distinct : {A : Type 0} → (A → A → Bool) → List A → Bool
distinct same [] = true
distinct same (x ∷ xs) = not (any_of (same x) xs) && distinct same xs

-- `all_of` says it of each item, and `any_of` of some item
abbrev pub OfItems : {A : Type 0} → (A → Bool) → List A → Type 0
OfItems holds xs = ((all_of holds xs ≡ true) ↔ All (λ x. holds x ≡ true) xs) × ((any_of holds xs ≡ true) ↔ Any (λ x. holds x ≡ true) xs)
