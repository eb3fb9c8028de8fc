-- What is counted of a text, whose bytes these are.
use Rattle.std.specs.Prelude.{◌≤◌, ℕ, ◌+◌, List, length, true, count_by, nat_lt, nat_le, Bool, ◌||◌}
use Rattle.std.specs.Str.{chars, IsUtf8}
use Rattle.unicode_segmentation.specs.Grapheme.{graphemes}

-- how many bytes
abbrev pub byte_count : List ℕ → ℕ
byte_count bytes = length bytes

-- how many characters
abbrev pub char_count : List ℕ → ℕ
char_count bytes = length (chars bytes)

-- how many of the characters are above U+FFFF
abbrev pub astral_count : List ℕ → ℕ
astral_count characters = count_by (λ c. nat_lt 0xFFFF c) characters

-- how many code units of UTF-16: one for each character, and one more for each above U+FFFF
abbrev pub unit_count : List ℕ → ℕ
unit_count bytes = char_count bytes + astral_count (chars bytes)

-- how many extended grapheme clusters
abbrev pub grapheme_count : List ℕ → ℕ
grapheme_count bytes = length (graphemes true bytes)

-- of every text: no more characters than code units of UTF-16, and no more of these than bytes
abbrev pub UnitsLaw : Type 0
UnitsLaw =
    (bytes : List ℕ) → IsUtf8 bytes → (char_count bytes ≤ unit_count bytes) × (unit_count bytes ≤ byte_count bytes)

-- the byte is below the first, or not below the second
abbrev pub is_outside : ℕ → ℕ → ℕ → Bool
is_outside low high byte = nat_lt byte low || nat_le high byte
