-- The escape of one half of a surrogate pair without the other. RFC 8259, section 8.2, leaves open what it means.
use Rattle.std.specs.Prelude.{ℕ, List, drop, length, slice_index, Bool, not, ◌==◌, ◌&&◌, ◌||◌, nat_le, ◌+◌, if◌then◌else◌}
use Rattle.std.specs.Char.{is_ascii_hexdigit}

-- whether a byte is one of `8`, `9`, `A` and `B`
abbrev pub is_high_digit : ℕ → Bool
is_high_digit c = (c == 56) || (c == 57) || (c == 65) || (c == 66) || (c == 97) || (c == 98)

-- whether a byte is one of `C` to `F`
abbrev pub is_low_digit : ℕ → Bool
is_low_digit c = is_ascii_hexdigit c && not (nat_le c 57) && not (is_high_digit c)

-- whether bytes begin with `\ud` and three hexadecimal digits
abbrev pub begins_half : List ℕ → Bool
begins_half bytes =
    nat_le 6 (length bytes) && (slice_index bytes 0 == 92) && (slice_index bytes 1 == 117)
    && ((slice_index bytes 2 == 68) || (slice_index bytes 2 == 100))
    && is_ascii_hexdigit (slice_index bytes 4) && is_ascii_hexdigit (slice_index bytes 5)

-- whether bytes begin with the escape of the first half of a pair, `\ud800` to `\udbff`
abbrev pub begins_high : List ℕ → Bool
begins_high bytes = begins_half bytes && is_high_digit (slice_index bytes 3)

-- whether bytes begin with the escape of the second half of a pair, `\udc00` to `\udfff`
abbrev pub begins_low : List ℕ → Bool
begins_low bytes = begins_half bytes && is_low_digit (slice_index bytes 3)

-- whether bytes begin with the escape of a half, and not with that of a pair
abbrev pub begins_lone : List ℕ → Bool
begins_lone bytes = begins_low bytes || (begins_high bytes && not (begins_low (drop 6 bytes)))

-- how many bytes begin as the escape of a second half does: fewer than 6, where it is none
abbrev pub low_begun : List ℕ → ℕ
low_begun bytes =
    if not (slice_index bytes 0 == 92) then 0
    else if not (slice_index bytes 1 == 117) then 1
    else if not (slice_index bytes 2 == 68) && not (slice_index bytes 2 == 100) then 2
    else if not (is_low_digit (slice_index bytes 3)) then 3
    else if not (is_ascii_hexdigit (slice_index bytes 4)) then 4
    else 5

-- how many bytes of the escape of a half without the other a pair could have: the next one makes it none
abbrev pub lone_length : List ℕ → ℕ
lone_length bytes = if begins_low bytes then 3 else 6 + low_begun (drop 6 bytes)
