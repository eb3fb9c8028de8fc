-- The number that a text writes, and the order of such numbers.
use Rattle.std.specs.Prelude.{◌<◌, IsTrue, Option, Some, None, ◌&&◌, ◌||◌, ◌==◌, not, slice_index, drop, ℕ, ◌+◌, ◌*◌, ◌%◌, ◌^◌, ◌-◌, Bool, ℤ, List, ◌++◌, length, get_or, refl, nat_lt, if◌then◌else◌}
use Rattle.std.specs.Char.{digit_value}
use Rattle.std.specs.Str.Parse.{digits_value, starts_with_minus}
use Rattle.std.specs.Coded.{Coded, code_by, coded×, coded_ℕ, coded_bool}
use Rattle.std.specs.Ordering.{int_cmp, nat_cmp}
use Rattle.std.specs.declared.cmp.Ordering.{Ordering}
use Rattle.fast_float.specs.Text.{Parts, scan, digits_of, tens_up, tens_down, with_sign}

-- digits × 10 ^ up ÷ 10 ^ down, below zero where it is negative
pub record Rational : Type 0 where
  pub negative : Bool
  pub digits : ℕ
  pub up : ℕ
  pub down : ℕ

-- a, times the divisors of a and b: a whole number
abbrev pub scaled : Rational → Rational → ℤ
scaled a b = with_sign a.negative (a.digits * 10 ^ (a.up + b.down))

-- how a lies to b
abbrev pub order : Rational → Rational → Ordering
order a b = int_cmp (scaled a b) (scaled b a)

-- the number of a numeral behind a sign
abbrev pub rational_of : Bool → Parts → Rational
rational_of negative p = record { negative = negative; digits = digits_of p; up = tens_up p; down = tens_down p }

-- the digit at a place, and 0 behind the last
abbrev pub digit_at : List ℕ → ℕ → ℕ
digit_at ds k = digit_value (get_or ds k 48)

-- the digits behind `gap` zeros
abbrev pub shifted : ℕ → List ℕ → ℕ → ℕ
shifted gap ds k = if nat_lt k gap then 0 else digit_at ds (k - gap)

-- the number that the exponent's digits write
abbrev pub power_of : Parts → ℕ
power_of p = digits_value 10 p.exponent

-- that number where the exponent has no minus, and else 0
abbrev pub up_of : Parts → ℕ
up_of p = if p.exponent_negative then 0 else power_of p

-- that number where the exponent has a minus, and else 0
abbrev pub down_of : Parts → ℕ
down_of p = if p.exponent_negative then power_of p else 0

-- how the sizes of two numerals lie
abbrev pub size_order : Parts → Parts → Ordering
size_order p q = nat_cmp (digits_of p * 10 ^ (tens_up p + tens_down q)) (digits_of q * 10 ^ (tens_up q + tens_down p))

-- how `0.P` times 10 ^ gap lies to `0.Q`, for the digits of both
abbrev pub point_order : Parts → Parts → ℕ → Ordering
point_order p q gap = nat_cmp (digits_of p * 10 ^ (length (q.whole ++ q.fraction) + gap)) (digits_of q * 10 ^ length (p.whole ++ p.fraction))

-- the size of one numeral is a whole multiple of the other's
abbrev pub size_multiple : Parts → Parts → Bool
size_multiple p q = digits_of p * 10 ^ (tens_up p + tens_down q) % (digits_of q * 10 ^ (tens_up q + tens_down p)) == 0

-- a is a whole multiple of b: its whole number divides by that of b, with nothing left
abbrev pub is_multiple : Rational → Rational → Bool
is_multiple a b = a.digits * 10 ^ (a.up + b.down) % (b.digits * 10 ^ (b.up + a.down)) == 0

-- digits other than 0 that fit 64 bits
abbrev pub IsSmallDivisor : Rational → Type 0
IsSmallDivisor b = (0 < b.digits) × (b.digits < 2 ^ 64)

-- the text behind a minus
abbrev pub unsigned_text : List ℕ → List ℕ
unsigned_text text = if starts_with_minus text then drop 1 text else text

-- Digits with no zero before others, perhaps a point and digits, perhaps an exponent, and nothing behind: RFC 8259's grammar, for a text with this many bytes.
abbrev pub is_numeral : Parts → ℕ → Bool
is_numeral p len =
    (nat_lt 0 (length p.whole) && (length p.whole == 1 || not (slice_index p.whole 0 == 48)))
    && ((not p.point || nat_lt 0 (length p.fraction)) && p.len == len)

-- the parts of a text behind its minus
abbrev pub parts_of : List ℕ → Parts
parts_of text = scan (unsigned_text text)

-- the text is a number of RFC 8259
abbrev pub is_number : List ℕ → Bool
is_number text = is_numeral (parts_of text) (length (unsigned_text text))

-- the number that a text writes
abbrev pub number_of : List ℕ → Rational
number_of text = rational_of (starts_with_minus text) (parts_of text)

-- the same, where the text is a number whose exponent's digits write less than 2 ^ 64
abbrev pub decimal_of : List ℕ → Option Rational
decimal_of text = if is_number text && nat_lt (power_of (parts_of text)) (2 ^ 64) then Some (number_of text) else None

-- a number whose exponent's digits write less than 2 ^ 64
abbrev pub IsReadable : List ℕ → Type 0
IsReadable text = IsTrue (is_number text) × (power_of (parts_of text) < 2 ^ 64)

abbrev pub rational_code : Coded Rational
rational_code =
    code_by ((Bool × ℕ) × (ℕ × ℕ)) (coded× (coded× coded_bool coded_ℕ) (coded× coded_ℕ coded_ℕ))
    (λ r. ((r.negative, r.digits), (r.up, r.down)))
    (λ t. record { negative = t.0.0; digits = t.0.1; up = t.1.0; down = t.1.1 }) (λ _. refl)
