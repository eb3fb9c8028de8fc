-- The items of a list in turn, each with whether it is the first of those that are the same.
use Rattle.std.proofs.Common.{◌≡◌, ◌≢◌, ℕ, ◌+◌, ◌<◌, ◌≤◌, Bool, true, false, not, List, [], ◌∷◌, length, take, drop, slice_index_or, None, refl, ap, sym, ◌∙◌, arith}
use Rattle.std.specs.List.{enumerate_from}
use Rattle.std.proofs.lemmas.Bool.{true≢false}
use Rattle.std.proofs.lemmas.List.{at_drop_more, drop_all, get_or-map, get_or-take, get_or_default, length-map, length-take}
use Rattle.std.proofs.lemmas.List.Folds.{list_any_at, list_any_none}
use Rattle.std.proofs.lemmas.List.FromFn.{length-enumerate_from, get_or-enumerate_from}
use Rattle.std.proofs.lemmas.Option.{none-some}
use Rattle.garde.specs.Fields.{asks_text, unique_text}
use Rattle.garde.specs.Firsts.{firsts, is_first, AreApart}
use Rattle.garde.specs.Visits.{Known}

not_true : (b : Bool) → b ≢ true → b ≡ false
not_true true is_not = absurd (is_not refl)
not_true false is_not = refl

holds_of : (message : List ℕ) (holds : Bool) → asks_text message holds ≡ None → holds ≡ true
holds_of message true none = refl
holds_of message false none = absurd (none-some _ (sym none))

some_item : {A : Type 0} (xs : List A) (i : ℕ) → i < length xs → A
some_item [] i within = absurd (omega (arith, within))
some_item (x ∷ xs) i within = x

module _ {A : Type 0} (same : A → A → Bool) (xs : List A) where
  length-firsts : length (firsts same xs) ≡ length xs
  length-firsts = length-map (enumerate_from 0 xs) _ ∙ length-enumerate_from 0 xs

  firsts_at : (i : ℕ) (d : A) (e : ℕ × Bool) → i < length xs → slice_index_or (firsts same xs) i e ≡ (i, is_first same xs i (slice_index_or xs i d))
  firsts_at i d e within =
      get_or-map _ (enumerate_from 0 xs) i (0, d) e (omega (arith, within, length-enumerate_from 0 xs))
      ∙ ap (λ y. (y.0, is_first same xs y.0 y.1)) (get_or-enumerate_from 0 xs i (0, d) within)
      ∙ ap (λ n. (n, is_first same xs n (slice_index_or xs i d))) (omega arith)

  -- the item at this index is the next one
  pub firsts_step : (i : ℕ) (x : A) → i < length xs → x ≡ slice_index_or xs i x → drop i (firsts same xs) ≡ (i, is_first same xs i x) ∷ drop (i + 1) (firsts same xs)
  firsts_step i x within is =
      at_drop_more (λ ys. ys) (firsts same xs) i (0, false) (omega (arith, within, length-firsts))
      ∙ ap (λ e. e ∷ drop (i + 1) (firsts same xs)) (firsts_at i x _ within ∙ ap (λ y. (i, is_first same xs i y)) (sym is))

  -- no item is left
  pub firsts_done : (i : ℕ) → length xs ≤ i → drop i (firsts same xs) ≡ []
  firsts_done i past = drop_all i (firsts same xs) (omega (arith, past, length-firsts))

  -- ---- what is known of a list without a fault

  first_of : (i j : ℕ) (d : A) → i < j → j < length xs → is_first same xs j (slice_index_or xs j d) ≡ true → same (slice_index_or xs i d) (slice_index_or xs j d) ≡ false
  first_of i j d before within first = not_true _ (λ is.
      let found = list_any_at (λ x. same x (slice_index_or xs j d)) (take j xs) i d (omega (arith, before, within, length-take j xs)) (ap (λ x. same x (slice_index_or xs j d)) (get_or-take j xs i d before) ∙ is) in
      true≢false (sym first ∙ ap not found))

  first_if : (j : ℕ) (d : A) → j < length xs → AreApart same xs → is_first same xs j (slice_index_or xs j d) ≡ true
  first_if j d within apart = ap not (list_any_none (λ x. same x (slice_index_or xs j d)) (take j xs) (λ i e below.
      let before : i < j = omega (arith, below, length-take j xs) in
      ap (λ x. same x (slice_index_or xs j d)) (get_or-take j xs i e before ∙ get_or_default xs i e d (omega (arith, before, within))) ∙ apart i j d before within))

  -- no two items are the same
  pub apart_of : (message : List ℕ) → Known (unique_text message same xs) → AreApart same xs
  unfolding Known
  apart_of message known i j d before within =
      first_of i j d before within (holds_of message _ (sym (ap (λ e. asks_text message e.1) (firsts_at j d (0, true) within)) ∙ known j (0, true) (omega (arith, within, length-firsts))))

  pub unique_of : (message : List ℕ) → AreApart same xs → Known (unique_text message same xs)
  unfolding Known
  unique_of message apart = λ j e below.
      let within : j < length xs = omega (arith, below, length-firsts) in
      let d = some_item xs j within in
      ap (λ y. asks_text message y.1) (firsts_at j d e within) ∙ ap (asks_text message) (first_if j d within apart)
