-- Lemmas on what is left of the items that an iterator gives.
use Rattle.std.proofs.Common.{◌≡◌, ℕ, suc, ◌+◌, ◌≤◌, ◌<◌, ap, List, [], ◌∷◌, ◌++◌, length, drop, Option, Some, None, refl, sym, ◌∙◌, add-one, drop-cons, arith, length-append}
use Rattle.std.specs.List.{enumerate_from}
use Rattle.std.specs.Prelude.{slice_index_or}
use Rattle.std.proofs.lemmas.List.{drop_all}
use Rattle.std.proofs.Math.Seq as seq
use Rattle.std.proofs.lemmas.List.FromFn.{length-enumerate_from, get_or-enumerate_from}
use Rattle.std.specs.Iterator.{Yields}
use Rattle.std.proofs.lemmas.Iterator.{YieldsList}
use Rattle.std.proofs.lemmas.Iterator.Consumers.{YieldsList-turn, YieldsList-end}

module _ {S A B : Type 0} {steps : S → Option A → S → Type 0} {v : A → B} {s : S} {all : List B} (road : YieldsList steps v s all) where
  -- the item that comes next is the first of those that are left
  pub left_before : (passed : List A) (t : S) → Yields steps s passed t → (u : S) (x : A) → steps t (Some x) u → drop (length passed) all ≡ v x ∷ drop (length (passed ++ x ∷ [])) all
  left_before passed t along u x step =
      let found = YieldsList-turn road passed t along (Some x) u x refl step in
      let count : length (passed ++ x ∷ []) ≡ length passed + 1 = length-append passed (x ∷ []) in
      drop-cons all (length passed) (v x) found.0 ∙ cc (add-one (length passed), sym found.1, count)

  -- at the end none is left
  pub none_left : (passed : List A) (t : S) → Yields steps s passed t → (u : S) → steps t None u → drop (length passed) all ≡ []
  none_left passed t along u step = drop_all (length passed) all (omega (arith, (YieldsList-end road passed t along None u refl step).1))

-- of items that are numbered from the first index on, the one with this number is the first of those that are left
pub numbered_left : {A : Type 0} (first : ℕ) (xs : List A) (k : ℕ) {x : A} → x ≡ slice_index_or xs k x → k < length xs → drop k (enumerate_from first xs) ≡ (first + k, x) ∷ drop (k + 1) (enumerate_from first xs)
numbered_left first xs k {x} is within =
    let each : k < length (enumerate_from first xs) = omega (arith, within, length-enumerate_from first xs) in
    rw (add-one k) (seq.drop-cons (enumerate_from first xs) k (first, x) each ∙ ap (λ e. e ∷ drop (suc k) (enumerate_from first xs)) (get_or-enumerate_from first xs k (first, x) within ∙ ap (λ y. (first + k, y)) (sym is)))

-- the same of items that are numbered from 0 on
pub item_left : {A : Type 0} (xs : List A) (k : ℕ) {x : A} → x ≡ slice_index_or xs k x → k < length xs → drop k (enumerate_from 0 xs) ≡ (k, x) ∷ drop (k + 1) (enumerate_from 0 xs)
item_left xs k {x} is within = numbered_left 0 xs k is within ∙ ap (λ n. (n, x) ∷ drop (k + 1) (enumerate_from 0 xs)) (omega arith)

-- at the end none is left
pub none_numbered_left : {A : Type 0} (first : ℕ) (xs : List A) (k : ℕ) → length xs ≤ k → drop k (enumerate_from first xs) ≡ []
none_numbered_left first xs k end = drop_all k (enumerate_from first xs) (omega (arith, length-enumerate_from first xs, end))
