-- The bytes with which characters begin.
use Rattle.std.proofs.Common.{◌≡◌, ℕ, List, [], ◌∷◌, length, cond, refl, arith}
use Rattle.std.specs.Prelude.{count_by, nat_lt, encode_utf8_all, encode_utf8}
use Rattle.std.proofs.Math.Utf8.{encode}
use Rattle.std.specs.Str.{chars, IsUtf8}
use Rattle.std.proofs.lemmas.Str.{encodes-chars}
use Rattle.std.proofs.lemmas.List.Sums.{sum_by-append, sum_by-cons}
use Rattle.std.proofs.lemmas.Bool.Decides.{nat_tests}
use Rattle.garde_engines.specs.Counts.{char_count, astral_count, is_outside}

-- a character has one byte that begins it
one : (c : ℕ) → count_by (is_outside 128 192) (encode_utf8 c) ≡ 1
unfolding encode
one c = grind (arith, nat_tests)

-- and one from 0xF0 on where it is above U+FFFF
tall : (c : ℕ) → count_by (is_outside 0 240) (encode_utf8 c) ≡ cond (nat_lt 0xFFFF c) 1 0
unfolding encode
tall c = grind (arith, nat_tests)

starts : (cs : List ℕ) → count_by (is_outside 128 192) (encode_utf8_all cs) ≡ length cs
starts [] = refl
starts (c ∷ cs) =
    let both = sum_by-append (λ b. cond (is_outside 128 192 b) 1 0) (encode_utf8 c) (encode_utf8_all cs) in
    let first = one c in
    let rest = starts cs in
    omega (arith, both, first, rest)

talls : (cs : List ℕ) → count_by (is_outside 0 240) (encode_utf8_all cs) ≡ astral_count cs
talls [] = refl
talls (c ∷ cs) =
    let both = sum_by-append (λ b. cond (is_outside 0 240 b) 1 0) (encode_utf8 c) (encode_utf8_all cs) in
    let first = tall c in
    let rest = talls cs in
    let whole = sum_by-cons (λ x. cond (nat_lt 0xFFFF x) 1 0) c cs in
    omega (arith, both, first, rest, whole)

-- the counts of a text are those of its bytes
pub start_count : (bs : List ℕ) → IsUtf8 bs → count_by (is_outside 128 192) bs ≡ char_count bs
start_count bs u = rw (encodes-chars bs u) at (starts (chars bs))

pub tall_count : (bs : List ℕ) → IsUtf8 bs → count_by (is_outside 0 240) bs ≡ astral_count (chars bs)
tall_count bs u = rw (encodes-chars bs u) at (talls (chars bs))
