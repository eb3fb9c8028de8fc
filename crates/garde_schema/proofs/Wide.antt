-- Lemmas on whole numbers of at most 128 bits.
use Rattle.std.proofs.Common.{◌≡◌, ℕ, ◌+◌, ◌*◌, ◌^◌, ◌<◌, Bool, true, false, List, [], ◌∷◌, ◌++◌, Option, Some, None, refl, ap, sym, subst, ◌∙◌, arith}
use Rattle.std.proofs.lemmas.Bool.{ltb-true, ltb-false, le-ltb}
use Rattle.std.specs.Prelude.{nat_lt, cond}
use Rattle.std.specs.Option.{SomeIff}
use Rattle.std.specs.Char.{digit_value}
use Rattle.std.specs.Str.Parse.{digits_value, digits_value_after}
use Rattle.garde_schema.specs.Wide.{of_128_bits, with_digit, with_digits}

digits_append : (n : Option ℕ) (xs ys : List ℕ) → with_digits n (xs ++ ys) ≡ with_digits (with_digits n xs) ys
digits_append n [] ys = refl
digits_append n (x ∷ xs) ys = digits_append (with_digit n x) xs ys

-- a number that has more bits has more with one more digit
digit_after : (n c : ℕ) → with_digit (of_128_bits n) c ≡ of_128_bits (n * 10 + digit_value c)
digit_after n c = by_cases (nat_lt n (2 ^ 128)) refl
  where
    more : nat_lt n (2 ^ 128) ≡ false → nat_lt (n * 10 + digit_value c) (2 ^ 128) ≡ false
    more is = let large = ltb-false n (2 ^ 128) is in le-ltb (n * 10 + digit_value c) (2 ^ 128) (omega (arith, large))

    by_cases : (b : Bool) → nat_lt n (2 ^ 128) ≡ b → with_digit (of_128_bits n) c ≡ of_128_bits (n * 10 + digit_value c)
    by_cases true is = ap (λ b. with_digit (cond b (Some n) None) c) is
    by_cases false is = ap (λ b. with_digit (cond b (Some n) None) c) is ∙ sym (ap (λ b. cond b (Some (n * 10 + digit_value c)) None) (more is))

digits_after : (n : ℕ) (ds : List ℕ) → with_digits (of_128_bits n) ds ≡ of_128_bits (digits_value_after 10 n ds)
digits_after n [] = refl
digits_after n (c ∷ cs) = ap (λ m. with_digits m cs) (digit_after n c) ∙ digits_after (n * 10 + digit_value c) cs

-- the digits of both parts in turn write their number
digits_of_both : (whole fraction : List ℕ) → with_digits (with_digits (Some 0) whole) fraction ≡ of_128_bits (digits_value 10 (whole ++ fraction))
digits_of_both whole fraction = sym (digits_append (Some 0) whole fraction) ∙ digits_after 0 (whole ++ fraction)

some_below : {P : Type 0} (n : ℕ) (b : Bool) → nat_lt n (2 ^ 128) ≡ b → P → SomeIff (cond b (Some n) None) (P × (n < 2 ^ 128)) n
some_below n true is p = ((p, ltb-true n (2 ^ 128) is), refl)
some_below n false is p = let large = ltb-false n (2 ^ 128) is in λ (q, less). absurd (omega (arith, large, less))

-- the number of at most 128 bits is there exactly where it has at most so many
some_of_128_bits : {P : Type 0} (n : ℕ) (r : Option ℕ) → P → r ≡ of_128_bits n → SomeIff r (P × (n < 2 ^ 128)) n
some_of_128_bits {P} n r p is = subst (λ z. SomeIff z (P × (n < 2 ^ 128)) n) (sym is) (some_below n (nat_lt n (2 ^ 128)) refl p)

-- the number was read from the digits before the point and then from those behind it
pub number_read : {P : Type 0} (whole fraction : List ℕ) {seen more : List ℕ} {front r : Option ℕ} → P → r ≡ with_digits front more → front ≡ with_digits (Some 0) seen → seen ≡ whole → more ≡ fraction → SomeIff r (P × (digits_value 10 (whole ++ fraction) < 2 ^ 128)) (digits_value 10 (whole ++ fraction))
number_read whole fraction {seen} {more} {front} p last first is rest =
    some_of_128_bits (digits_value 10 (whole ++ fraction)) _ p
    (last ∙ ap (λ n. with_digits n more) (first ∙ ap (λ ds. with_digits (Some 0) ds) is) ∙ ap (λ ds. with_digits (with_digits (Some 0) whole) ds) rest ∙ digits_of_both whole fraction)
