-- The addresses that texts write.
use Rattle.std.specs.Prelude.{◌≡◌, ◌↔◌, ◌==◌, ◌||◌, ℕ, Bool, false, List, [], ◌∷◌, Option, Some, None, option_map, if◌then◌else◌}
use Rattle.std.specs.Net.Grammar.{IsIpv4Text, IsIpv6Text}
use Rattle.std.specs.Net.Reader.{read_ipv4, read_ipv6, whole_value}
use Rattle.std.specs.declared.net.ip_addr.IpAddr.{IpAddr}
use Rattle.std.specs.declared.net.ip_addr.IpAddr.TheVariants.{V4, V6}
use Rattle.std.specs.declared.net.ipv4_addr.Ipv4Addr.{Ipv4Addr}
use Rattle.std.specs.declared.net.ipv6_addr.Ipv6Addr.{Ipv6Addr}
use Rattle.garde_schema.specs.declared.fault.Wanted.{Wanted}
use Rattle.garde_schema.specs.declared.fault.Wanted.TheVariants as wanted

-- the IPv4 address that a text writes
abbrev pub ipv4_of : List ℕ → Option Ipv4Addr
ipv4_of text = option_map (λ octets. record { octets = octets }) (whole_value (read_ipv4 text))

-- the IPv6 address that a text writes
abbrev pub ipv6_of : List ℕ → Option Ipv6Addr
ipv6_of text = option_map (λ segments. record { segments = segments }) (whole_value (read_ipv6 text))

-- these are the addresses of the standard library's grammar
abbrev pub Ipv4Law : Type 0
Ipv4Law = (text : List ℕ) (a : Ipv4Addr) → (ipv4_of text ≡ Some a) ↔ IsIpv4Text text a

abbrev pub Ipv6Law : Type 0
Ipv6Law = (text : List ℕ) (a : Ipv6Addr) → (ipv6_of text ≡ Some a) ↔ IsIpv6Text text a

-- the first of two addresses that is there
abbrev pub first_ip : Option Ipv4Addr → Option Ipv6Addr → Option IpAddr
first_ip (Some a) other = Some (V4 a)
first_ip None (Some a) = Some (V6 a)
first_ip None None = None

-- the address of either version that a text writes
abbrev pub ip_of : List ℕ → Option IpAddr
ip_of text = first_ip (ipv4_of text) (ipv6_of text)

-- whether a text has a colon
unfoldable pub has_colon : List ℕ → Bool
has_colon [] = false
has_colon (c ∷ cs) = c == 58 || has_colon cs

-- what is wanted in place of a text that writes no address
abbrev pub ip_wanted : List ℕ → Wanted
ip_wanted text = if has_colon text then wanted.Ipv6 else wanted.Ipv4
