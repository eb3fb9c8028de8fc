use Rattle.std.proofs.Common.{◌≡◌, ◌+◌, ◌*◌, ◌≤◌, ℕ, List, [], ◌∷◌, length, cond, Ok, refl, ap, ◌∙◌, arith}
use Rattle.std.specs.Str.{chars, IsUtf8}
use Rattle.std.specs.Prelude.{nat_lt, encode_utf8_all, encode_utf8}
use Rattle.std.proofs.lemmas.Str.{encodes-chars, length-encode, len_utf8_bounds}
use Rattle.std.proofs.lemmas.Bool.Decides.{nat_tests}
use Rattle.std.proofs.lemmas.List.{length-append}
use Rattle.std.proofs.lemmas.List.Recursion.{is_count_by}
use Rattle.std.specs.Char.{len_utf8}
use Rattle.garde_engines.specs.Bounds.{bounds_answer}
use Rattle.garde_engines.specs.Counts.{UnitsLaw, astral_count, char_count}

-- a character takes no fewer bytes than units
unit_le : (c : ℕ) → 1 + cond (nat_lt 0xFFFF c) 1 0 ≤ len_utf8 c
unit_le c = grind (arith, nat_tests)

-- the same count by recursion
abbrev astral : List ℕ → ℕ
astral [] = 0
astral (c ∷ cs) = cond (nat_lt 0xFFFF c) (1 + astral cs) (astral cs)

astral_is : (cs : List ℕ) → astral cs ≡ astral_count cs
astral_is = is_count_by astral (λ c. nat_lt 0xFFFF c) refl (λ _ _. refl)

step : (c n : ℕ) → cond (nat_lt 0xFFFF c) (1 + n) n ≡ cond (nat_lt 0xFFFF c) 1 0 + n
step c n = grind (arith, nat_tests)

units_le : (cs : List ℕ) → length cs + astral cs ≤ length (encode_utf8_all cs)
units_le [] = omega arith
units_le (c ∷ cs) =
    let l : length (encode_utf8_all (c ∷ cs)) ≡ len_utf8 c + length (encode_utf8_all cs) =
    length-append (encode_utf8 c) (encode_utf8_all cs) ∙ ap (λ n. n + length (encode_utf8_all cs)) (length-encode c) in
    let w = unit_le c in
    let e = step c (astral cs) in
    let ih = units_le cs in
    omega (arith, w, ih, e, l)

pub units_law : UnitsLaw
units_law bs u = (omega arith, rw (encodes-chars bs u) at (rw astral_is at (units_le (chars bs))))

-- a character takes 1 to 4 bytes
bytes_most : (cs : List ℕ) → length (encode_utf8_all cs) ≤ 4 * length cs
bytes_most [] = omega arith
bytes_most (c ∷ cs) =
    let l : length (encode_utf8_all (c ∷ cs)) ≡ len_utf8 c + length (encode_utf8_all cs) =
    length-append (encode_utf8 c) (encode_utf8_all cs) ∙ ap (λ n. n + length (encode_utf8_all cs)) (length-encode c) in
    let few = (len_utf8_bounds c).1 in
    let ih = bytes_most cs in
    omega (arith, few, ih, l)

pub char_bytes : (bs : List ℕ) → IsUtf8 bs → length bs ≤ 4 * char_count bs
char_bytes bs u = rw (encodes-chars bs u) at (bytes_most (chars bs))

-- a number within its bounds
pub within_answer : (min max n : ℕ) → min ≤ n → n ≤ max → Ok tt ≡ bounds_answer min max n
within_answer min max n low high = grind (arith, nat_tests, low, high)
