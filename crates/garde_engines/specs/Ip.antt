-- The texts of IP addresses, by cuts of whole texts at `.`, `:` and `::`.
use Rattle.std.specs.Prelude.{◌≡◌, ℕ, zero, suc, ◌+◌, ◌-◌, ◌<◌, ◌≤◌, ◌⊎◌, List, [], ◌∷◌, ◌++◌, length, slice_index}
use Rattle.std.specs.Str.Parse.{IsNumeral, digits_value}
use Rattle.garde_i18n.specs.declared.reasons.IpKind.{IpKind}
use Rattle.garde_i18n.specs.declared.reasons.IpKind.TheVariants.{Any, V4, V6}

-- `.` and `:` in ASCII
abbrev pub dot : ℕ
dot = 46

abbrev pub colon : ℕ
colon = 58

-- 1 to 3 decimal digits with a value of at most 255, of which the first is `0` only where there is
-- no other
abbrev pub IsOctet : List ℕ → Type 0
IsOctet digits =
    IsNumeral 10 digits × (length digits ≤ 3) × (digits_value 10 digits ≤ 255)
    × (slice_index digits 0 ≡ 48 → length digits ≡ 1)

-- four octets joined by `.`
abbrev pub IsIpv4 : List ℕ → Type 0
IsIpv4 text = (a : List ℕ) × (b : List ℕ) × (c : List ℕ) × (d : List ℕ)
    × (IsOctet a × IsOctet b × IsOctet c × IsOctet d)
    × (text ≡ a ++ dot ∷ (b ++ dot ∷ (c ++ dot ∷ d)))

-- 1 to 4 hexadecimal digits of either case
abbrev pub IsGroup : List ℕ → Type 0
IsGroup digits = IsNumeral 16 digits × (length digits ≤ 4)

-- n groups joined by `:`
abbrev pub IsRun : ℕ → List ℕ → Type 0
IsRun zero text = text ≡ []
IsRun (suc zero) text = IsGroup text
IsRun (suc (suc n)) text =
    (group : List ℕ) × (rest : List ℕ) × IsGroup group × IsRun (suc n) rest
    × (text ≡ group ++ colon ∷ rest)

-- n groups joined by `:`, where an IPv4 text may stand for the last two
abbrev pub IsTail : ℕ → List ℕ → Type 0
IsTail n text = IsRun n text ⊎ (((n ≡ 2) × IsIpv4 text) ⊎ ((2 < n)
    × ((run : List ℕ) × (octets : List ℕ) × IsRun (n - 2) run × IsIpv4 octets
    × (text ≡ run ++ colon ∷ octets))))

-- a tail of 8 groups; or a run of some groups, `::` and a tail of some groups, together at most 7
abbrev pub IsIpv6 : List ℕ → Type 0
IsIpv6 text = IsTail 8 text ⊎ ((a : ℕ) × (b : ℕ) × (run : List ℕ) × (tail : List ℕ)
    × IsRun a run × IsTail b tail × (a + b ≤ 7) × (text ≡ run ++ colon ∷ (colon ∷ tail)))

-- an address of the kind: of either version for `Any`
abbrev pub IsIp : IpKind → List ℕ → Type 0
IsIp Any text = IsIpv4 text ⊎ IsIpv6 text
IsIp V4 text = IsIpv4 text
IsIp V6 text = IsIpv6 text
