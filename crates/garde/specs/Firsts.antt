-- Which items of a list are the first of those that are the same.
use Rattle.std.specs.Prelude.{◌≡◌, ℕ, ◌<◌, Bool, false, not, List, length, map, take, slice_index_or}
use Rattle.std.specs.List.{list_any, enumerate_from}

-- whether an item of a list is the same as this one
abbrev pub includes : {A : Type 0} → (A → A → Bool) → List A → A → Bool
includes same xs x = list_any (λ item. same item x) xs

-- whether no item before this index is the same as this item
abbrev pub is_first : {A : Type 0} → (A → A → Bool) → List A → ℕ → A → Bool
is_first same xs index x = not (includes same (take index xs) x)

-- the index of each item, and whether it is the first of those that are the same
abbrev pub firsts : {A : Type 0} → (A → A → Bool) → List A → List (ℕ × Bool)
firsts same xs = map (λ e. (e.0, is_first same xs e.0 e.1)) (enumerate_from 0 xs)

-- no two items are the same
abbrev pub AreApart : {A : Type 0} → (A → A → Bool) → List A → Type 0
AreApart {A} same xs = (i j : ℕ) (d : A) → i < j → j < length xs → same (slice_index_or xs i d) (slice_index_or xs j d) ≡ false
