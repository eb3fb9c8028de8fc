-- The grammar of IP addresses as a test: whether some cut of a text at `.`, `:` or `::` is one that `Ip` names.
use Rattle.std.specs.Prelude.{ℕ, zero, suc, ◌-◌, List, [], ◌∷◌, length, slice_index, Bool, false, Decides, not, ◌&&◌, ◌||◌, ◌==◌, nat_lt, nat_le}
use Rattle.std.specs.Char.{is_digit}
use Rattle.std.specs.List.{list_all}
use Rattle.std.specs.Str.Parse.{digits_value}
use Rattle.garde_i18n.specs.declared.reasons.IpKind.{IpKind}
use Rattle.garde_i18n.specs.declared.reasons.IpKind.TheVariants.{Any, V4, V6}
use Rattle.garde_engines.specs.Ip.{dot, colon, IsIp}

-- at some place of this byte the text before it and the text after it pass
abbrev pub some_cut : ℕ → (List ℕ → List ℕ → Bool) → List ℕ → Bool
some_cut byte passes [] = false
some_cut byte passes (b ∷ text) =
    (b == byte && passes [] text) || some_cut byte (λ front rest. passes (b ∷ front) rest) text

-- the text begins with this byte, and what follows it passes
abbrev pub after : ℕ → (List ℕ → Bool) → List ℕ → Bool
after byte passes [] = false
after byte passes (b ∷ text) = b == byte && passes text

-- some number below n passes
abbrev pub some_below : (ℕ → Bool) → ℕ → Bool
some_below passes zero = false
some_below passes (suc n) = passes n || some_below passes n

-- the test for `IsNumeral`: one digit or more, and nothing else
abbrev pub is_numeral : ℕ → List ℕ → Bool
is_numeral radix digits = nat_lt 0 (length digits) && list_all (λ c. is_digit c radix) digits

-- the test for `IsOctet`
unfoldable pub is_octet : List ℕ → Bool
is_octet digits =
    is_numeral 10 digits && (nat_le (length digits) 3 && (nat_le (digits_value 10 digits) 255
    && (not (slice_index digits 0 == 48) || length digits == 1)))

-- the test for `IsIpv4`
unfoldable pub is_ipv4_text : List ℕ → Bool
is_ipv4_text text =
    some_cut dot (λ a bcd. is_octet a
    && some_cut dot (λ b cd. is_octet b
    && some_cut dot (λ c d. is_octet c && is_octet d) cd) bcd) text

-- the test for `IsGroup`
abbrev pub is_group : List ℕ → Bool
is_group digits = is_numeral 16 digits && nat_le (length digits) 4

-- the test for `IsRun`
unfoldable pub is_run : ℕ → List ℕ → Bool
is_run zero text = length text == 0
is_run (suc zero) text = is_group text
is_run (suc (suc n)) text = some_cut colon (λ group rest. is_group group && is_run (suc n) rest) text

-- the test for `IsTail`
unfoldable pub is_tail : ℕ → List ℕ → Bool
is_tail n text = is_run n text || ((n == 2 && is_ipv4_text text)
    || (nat_lt 2 n && some_cut colon (λ run octets. is_run (n - 2) run && is_ipv4_text octets) text))

-- the test for `IsIpv6`
unfoldable pub is_ipv6_text : List ℕ → Bool
is_ipv6_text text = is_tail 8 text
    || some_below (λ a. some_below (λ b.
    some_cut colon (λ run rest. is_run a run && after colon (λ tail. is_tail b tail) rest) text)
    (8 - a)) 8

-- the test for `IsIp`
abbrev pub is_ip_text : IpKind → List ℕ → Bool
is_ip_text Any text = is_ipv4_text text || is_ipv6_text text
is_ip_text V4 text = is_ipv4_text text
is_ip_text V6 text = is_ipv6_text text

-- the test is true exactly of the addresses of the grammar
abbrev pub AddressesLaw : Type 0
AddressesLaw = (kind : IpKind) (text : List ℕ) → Decides (is_ip_text kind text) (IsIp kind text)
