-- Texts that are surely URLs, found without the parser: a scheme, a host of plain bytes, and a path.
use Rattle.std.specs.Prelude.{ℕ, List, [], ◌∷◌, take, drop, Bool, false, nat_lt, nat_le, ◌==◌, ◌&&◌, ◌||◌, Option, Some, None, bytes_eq, codes, if◌then◌else◌}
use Rattle.std.specs.List.{list_all}
use Rattle.url.specs.Input.{split_once, rsplit_once}
use Rattle.garde_engines.specs.Ip.{dot}

-- `b'/'`
abbrev pub slash : ℕ
slash = 47

-- a small letter, a digit, `-` or `.`
abbrev pub is_plain_byte : ℕ → Bool
is_plain_byte byte = (nat_le 97 byte && nat_le byte 122) || (nat_le 48 byte && nat_le byte 57) || byte == 45 || byte == dot

-- what stands before the first `/`, all of it where there is none
abbrev pub host_of : List ℕ → List ℕ
host_of text = (split_once slash text).0

-- what stands behind the last dot, all of it where there is none
abbrev pub last_label : List ℕ → List ℕ
last_label host = (rsplit_once dot host).1

-- begins with `a` or a greater byte, which is a letter where it is plain
abbrev pub begins_with_letter : List ℕ → Bool
begins_with_letter [] = false
begins_with_letter (byte ∷ bytes) = nat_lt 96 byte

-- what stands before the first `/` is plain, and its last label begins with a letter
abbrev pub has_plain_host : List ℕ → Bool
has_plain_host text = list_all is_plain_byte (host_of text) && begins_with_letter (last_label (host_of text))

-- what follows `https://` or `http://`
abbrev pub after_scheme : List ℕ → Option (List ℕ)
after_scheme text = if bytes_eq (take 8 text) (codes "https://") then Some (drop 8 text)
    else (if bytes_eq (take 7 text) (codes "http://") then Some (drop 7 text) else None)

-- a plain host follows the scheme
abbrev pub is_plain_rest : Option (List ℕ) → Bool
is_plain_rest None = false
is_plain_rest (Some rest) = has_plain_host rest

-- The text is plainly a URL: `https://` or `http://`, a plain host, and nothing more or a `/` and
-- anything.
abbrev pub is_plain_url : List ℕ → Bool
is_plain_url text = is_plain_rest (after_scheme text)
