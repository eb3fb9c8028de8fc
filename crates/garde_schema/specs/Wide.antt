-- Whole numbers of at most 128 bits, from their digits.
use Rattle.std.specs.Prelude.{ℕ, ◌+◌, ◌*◌, ◌^◌, List, [], ◌∷◌, nat_lt, cond, Option, Some, None}
use Rattle.std.specs.Char.{digit_value}

-- the number, where it has at most 128 bits
abbrev pub of_128_bits : ℕ → Option ℕ
of_128_bits n = cond (nat_lt n (2 ^ 128)) (Some n) None

-- the number with one more digit
abbrev pub with_digit : Option ℕ → ℕ → Option ℕ
with_digit None c = None
with_digit (Some n) c = of_128_bits (n * 10 + digit_value c)

-- the number with these digits behind it
abbrev pub with_digits : Option ℕ → List ℕ → Option ℕ
with_digits n [] = n
with_digits n (c ∷ cs) = with_digits (with_digit n c) cs
