-- Numbers as the parser of the standard library reads them.
use Rattle.std.proofs.Common.{◌≡◌, ℕ, zero, suc, ◌+◌, ℤ, pos, negsuc, ◌<◌, ◌≤◌, ◌^◌, ◌-◌, Bool, true, false, List, [], ◌∷◌, length, drop, get_or, Some, None, refl, sym, subst, ap, ◌∙◌, arith, SFits, w64, to_z-of_z, to_z, of_z}
use Rattle.std.proofs.Math.Seq.{drop-cons}
use Rattle.std.proofs.lemmas.Bool.{true≢false, false≢true, and_from, lt-ltb, ltb-true, ltb-false, le-ltb}
use Rattle.std.specs.Prelude.{◌&&◌, nat_lt, int_lt, if◌then◌else◌}
use Rattle.std.specs.Char.{digit_value}
use Rattle.std.specs.Str.Parse.{AllDigits, IsNumeral, digits_value, signed_digits_value, without_leading_plus, without_leading_sign}
use Rattle.garde_form.specs.Texts.{all_digits, is_numeral, unsigned_text, signed_text}

and_split : (x y : Bool) → (x && y) ≡ true → (x ≡ true) × (y ≡ true)
and_split true y e = (refl, e)
and_split false y e = absurd (false≢true e)

digits_yes : (ds : List ℕ) → AllDigits 10 ds → all_digits ds ≡ true
unfolding all_digits
digits_yes [] all = refl
digits_yes (c ∷ cs) all = and_from _ _ (lt-ltb (digit_value c) 10 all.0) (digits_yes cs all.1)

digits_of_yes : (ds : List ℕ) → all_digits ds ≡ true → AllDigits 10 ds
unfolding all_digits
digits_of_yes [] is = tt
digits_of_yes (c ∷ cs) is = let parts = and_split (nat_lt (digit_value c) 10) (all_digits cs) is in (ltb-true (digit_value c) 10 parts.0, digits_of_yes cs parts.1)

numeral_yes : (ds : List ℕ) → IsNumeral 10 ds → is_numeral ds ≡ true
numeral_yes ds is = and_from _ _ (lt-ltb 0 (length ds) is.0) (digits_yes ds is.1)

numeral_of : (ds : List ℕ) → is_numeral ds ≡ true → IsNumeral 10 ds
numeral_of ds is = let parts = and_split (nat_lt 0 (length ds)) (all_digits ds) is in (ltb-true 0 (length ds) parts.0, digits_of_yes ds parts.1)

pick : {A : Type 0} (b c : Bool) (v n : A) → b ≡ true → c ≡ false → n ≡ v → Some n ≡ (if b then (if c then None else Some v) else None)
pick true false v n sure fits is = ap (λ z. Some z) is
pick true true v n sure fits is = absurd (true≢false fits)
pick false c v n sure fits is = absurd (false≢true sure)

pick_none : {A : Type 0} (b c : Bool) (v : A) → (b ≡ true → c ≡ false → ⊥) → None ≡ (if b then (if c then None else Some v) else None)
pick_none true false v never = absurd (never refl refl)
pick_none true true v never = refl
pick_none false c v never = refl

-- a text that is read as a number without a sign
pub unsigned_some : (text : List ℕ) (n : ℕ) → IsNumeral 10 (without_leading_plus text) × (digits_value 10 (without_leading_plus text) < 2 ^ 64) → n ≡ digits_value 10 (without_leading_plus text) → Some n ≡ unsigned_text text
unsigned_some text n is same =
    let v : ℕ = digits_value 10 (without_leading_plus text) in
    let small : v ≤ 2 ^ 64 - 1 = omega (arith, is.1) in
    pick _ _ v n (numeral_yes _ is.0) (le-ltb (2 ^ 64 - 1) v small) same

-- and one that is none
pub unsigned_none : (text : List ℕ) → ¬ (IsNumeral 10 (without_leading_plus text) × (digits_value 10 (without_leading_plus text) < 2 ^ 64)) → None ≡ unsigned_text text
unsigned_none text never =
    let v : ℕ = digits_value 10 (without_leading_plus text) in
    pick_none _ _ v (λ sure fits. never (numeral_of _ sure, (let small : v ≤ 2 ^ 64 - 1 = ltb-false (2 ^ 64 - 1) v fits in omega (arith, small))))

pick_signed : {A : Type 0} (b c d : Bool) (v n : A) → b ≡ true → c ≡ false → d ≡ false → n ≡ v → Some n ≡ (if b then (if c then None else (if d then None else Some v)) else None)
pick_signed true false d v n sure low high is = pick true d v n sure high is
pick_signed true true d v n sure low high is = absurd (true≢false low)
pick_signed false c d v n sure low high is = absurd (false≢true sure)

pick_no_signed : {A : Type 0} (b c d : Bool) (v : A) → (b ≡ true → c ≡ false → d ≡ false → ⊥) → None ≡ (if b then (if c then None else (if d then None else Some v)) else None)
pick_no_signed true false d v never = pick_none true d v (λ sure high. never sure refl high)
pick_no_signed true true d v never = refl
pick_no_signed false c d v never = refl

within : (z : ℤ) → SFits w64 z → (int_lt z (negsuc (2 ^ 63 - 1)) ≡ false) × (int_lt (pos (2 ^ 63 - 1)) z ≡ false)
within (pos n) fits = let small : n < 2 ^ 63 = fits.sfits in (refl, le-ltb (2 ^ 63 - 1) n (omega (arith, small)))
within (negsuc n) fits = let small : n < 2 ^ 63 = fits.sfits in (le-ltb (2 ^ 63 - 1) n (omega (arith, small)), refl)

fits_within : (z : ℤ) → int_lt z (negsuc (2 ^ 63 - 1)) ≡ false → int_lt (pos (2 ^ 63 - 1)) z ≡ false → SFits w64 z
fits_within (pos n) low high = let small : n ≤ 2 ^ 63 - 1 = ltb-false (2 ^ 63 - 1) n high in record { sfits = omega (arith, small) }
fits_within (negsuc n) low high = let small : n ≤ 2 ^ 63 - 1 = ltb-false (2 ^ 63 - 1) n low in record { sfits = omega (arith, small) }

-- a text that is read as a number with its sign
pub signed_some : (text : List ℕ) (n : ℤ) → IsNumeral 10 (without_leading_sign text) × SFits w64 (signed_digits_value 10 text) → n ≡ signed_digits_value 10 text → Some (to_z w64 (of_z w64 n)) ≡ signed_text text
signed_some text n is same =
    let fits : SFits w64 n = subst (λ z. SFits w64 z) (sym same) is.1 in
    let inside = within (signed_digits_value 10 text) is.1 in
    ap (λ z. Some z) (to_z-of_z fits) ∙ pick_signed _ _ _ (signed_digits_value 10 text) n (numeral_yes _ is.0) inside.0 inside.1 same

-- and one that is none
pub signed_none : (text : List ℕ) → ¬ (IsNumeral 10 (without_leading_sign text) × SFits w64 (signed_digits_value 10 text)) → None ≡ signed_text text
signed_none text never = pick_no_signed _ _ _ (signed_digits_value 10 text) (λ sure low high. never (numeral_of _ sure, fits_within (signed_digits_value 10 text) low high))

-- the byte at an index is a digit, so the answer is that of the bytes behind it
pub digit_at : (text : List ℕ) (i : ℕ) → i < length text → nat_lt (digit_value (get_or text i 0)) 10 ≡ true → all_digits (drop (i + 1) text) ≡ all_digits (drop i text)
unfolding all_digits
digit_at text i within is =
    let next : suc i ≡ i + 1 = omega arith in
    let here : all_digits (drop i text) ≡ all_digits (drop (suc i) text) = ap all_digits (drop-cons text i 0 within) ∙ ap (λ b. b && all_digits (drop (suc i) text)) is in
    sym (here ∙ ap (λ k. all_digits (drop k text)) next)

-- it is none, so the answer is no
pub no_digit_at : (text : List ℕ) (i : ℕ) → i < length text → nat_lt (digit_value (get_or text i 0)) 10 ≡ false → false ≡ all_digits (drop i text)
unfolding all_digits
no_digit_at text i within is = sym (ap all_digits (drop-cons text i 0 within) ∙ ap (λ b. b && all_digits (drop (suc i) text)) is)

-- no byte is left
pub none_left : (text : List ℕ) (i : ℕ) → length text ≤ i → true ≡ all_digits (drop i text)
unfolding all_digits
none_left text i past = ap all_digits (sym (drop_all text i past))
  where
    drop_all : (l : List ℕ) (k : ℕ) → length l ≤ k → drop k l ≡ []
    drop_all [] zero h = refl
    drop_all [] (suc k) h = refl
    drop_all (c ∷ cs) zero h = absurd (omega (arith, h))
    drop_all (c ∷ cs) (suc k) h = drop_all cs k (omega (arith, h))
