-- What stands behind a shape, and behind digits, step by step.
use Rattle.std.proofs.Common.{◌≡◌, ℕ, ◌+◌, ◌<◌, ◌≤◌, Bool, true, false, List, ◌∷◌, length, drop, take, ◌-◌, get_or, Some, None, refl, sym, subst, arith}
use Rattle.std.proofs.lemmas.Bool.{true≢false, false≢true}
use Rattle.std.proofs.lemmas.List.{drop_all, drop_more, take_all, length-drop}
use Rattle.std.specs.Prelude.{if◌then◌else◌}
use Rattle.garde_parsed.specs.Layouts.{behind, behind_digits, fits_byte, is_digit}

chosen : {A : Type 0} (b : Bool) (x y : A) → b ≡ true → x ≡ (if b then x else y)
chosen true x y e = refl
chosen false x y e = absurd (false≢true e)

passed : {A : Type 0} (b : Bool) (x y : A) → b ≡ false → y ≡ (if b then x else y)
passed true x y e = absurd (true≢false e)
passed false x y e = refl

-- a byte has its place
pub fits : (ps cs : List ℕ) (i : ℕ) → i < length ps → i < length cs → fits_byte (get_or ps i 0) (get_or cs i 0) ≡ true → behind (drop (i + 1) ps) (drop (i + 1) cs) ≡ behind (drop i ps) (drop i cs)
unfolding behind
fits ps cs i some more is =
    subst (λ z. behind (drop (i + 1) ps) (drop (i + 1) cs) ≡ behind z (drop i cs)) (sym (drop_more ps i 0 some))
    (subst (λ z. behind (drop (i + 1) ps) (drop (i + 1) cs) ≡ behind (get_or ps i 0 ∷ drop (i + 1) ps) z) (sym (drop_more cs i 0 more))
    (chosen (fits_byte (get_or ps i 0) (get_or cs i 0)) (behind (drop (i + 1) ps) (drop (i + 1) cs)) None is))

-- a byte has none
pub differs : (ps cs : List ℕ) (i : ℕ) → i < length ps → i < length cs → fits_byte (get_or ps i 0) (get_or cs i 0) ≡ false → None ≡ behind (drop i ps) (drop i cs)
unfolding behind
differs ps cs i some more is =
    subst (λ z. None ≡ behind z (drop i cs)) (sym (drop_more ps i 0 some))
    (subst (λ z. None ≡ behind (get_or ps i 0 ∷ drop (i + 1) ps) z) (sym (drop_more cs i 0 more))
    (passed (fits_byte (get_or ps i 0) (get_or cs i 0)) (behind (drop (i + 1) ps) (drop (i + 1) cs)) None is))

-- there is no byte
pub too_short : (ps cs : List ℕ) (i : ℕ) → i < length ps → length cs ≤ i → None ≡ behind (drop i ps) (drop i cs)
unfolding behind
too_short ps cs i some none =
    subst (λ z. None ≡ behind z (drop i cs)) (sym (drop_more ps i 0 some))
    (subst (λ z. None ≡ behind (get_or ps i 0 ∷ drop (i + 1) ps) z) (sym (drop_all i cs none)) refl)

-- nothing is left of the shape
pub all_fit : (ps cs : List ℕ) (i : ℕ) → length ps ≤ i → Some (drop i cs) ≡ behind (drop i ps) (drop i cs)
unfolding behind
all_fit ps cs i none = subst (λ z. Some (drop i cs) ≡ behind z (drop i cs)) (sym (drop_all i ps none)) refl

-- a digit is passed
pub digit : (cs : List ℕ) (i : ℕ) → i < length cs → is_digit (get_or cs i 0) ≡ true → behind_digits (drop (i + 1) cs) ≡ behind_digits (drop i cs)
unfolding behind_digits
digit cs i some is = subst (λ z. behind_digits (drop (i + 1) cs) ≡ behind_digits z) (sym (drop_more cs i 0 some)) (chosen (is_digit (get_or cs i 0)) (behind_digits (drop (i + 1) cs)) (get_or cs i 0 ∷ drop (i + 1) cs) is)

-- another byte is not
pub no_digit : (cs : List ℕ) (i : ℕ) → i < length cs → is_digit (get_or cs i 0) ≡ false → drop i cs ≡ behind_digits (drop i cs)
unfolding behind_digits
no_digit cs i some is = subst (λ z. z ≡ behind_digits z) (sym (drop_more cs i 0 some)) (passed (is_digit (get_or cs i 0)) (behind_digits (drop (i + 1) cs)) (get_or cs i 0 ∷ drop (i + 1) cs) is)

-- nothing is left
pub no_byte : (cs : List ℕ) (i : ℕ) → length cs ≤ i → drop i cs ≡ behind_digits (drop i cs)
unfolding behind_digits
no_byte cs i none = subst (λ z. z ≡ behind_digits z) (sym (drop_all i cs none)) refl

-- what a slice from a place on has
pub rest : (cs : List ℕ) (i : ℕ) → take (length cs - i) (drop i cs) ≡ drop i cs
rest cs i = take_all (length cs - i) (drop i cs) (omega (arith, length-drop i cs))
