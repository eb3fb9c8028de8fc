-- Octets at the start of a text.
use Rattle.std.specs.Prelude.{◌≡◌, ℕ, ◌≤◌, List, [], ◌∷◌, ◌++◌, ⊤}
use Rattle.std.specs.Char.{digit_value}
use Rattle.garde_engines.specs.Ip.{dot, IsOctet, IsIpv4}

-- no decimal digit stands at the start
abbrev pub NoDigit : List ℕ → Type 0
NoDigit text = (c : ℕ) (rest : List ℕ) → text ≡ c ∷ rest → 10 ≤ digit_value c

-- an octet may end before this text: it is empty, or begins with `.`
abbrev pub Ends : List ℕ → Type 0
Ends [] = ⊤
Ends (c ∷ rest) = c ≡ dot

-- no octet that ends stands at the start
abbrev pub NoOctet : List ℕ → Type 0
NoOctet text = (octet : List ℕ) (rest : List ℕ) → IsOctet octet → Ends rest → text ≡ octet ++ rest → ⊥

-- the text begins with an octet, and behind each octet at its start that ends stands the rest
pub record FirstOctet (text rest : List ℕ) : Type 0 where
  pub octet : List ℕ
  pub is : IsOctet octet
  pub cut : text ≡ octet ++ rest
  pub only : (o : List ℕ) (r : List ℕ) → IsOctet o → Ends r → text ≡ o ++ r → r ≡ rest

-- no octet with a `.` behind it stands at the start
abbrev pub NoDotted : List ℕ → Type 0
NoDotted text = (octet : List ℕ) (rest : List ℕ) → IsOctet octet → text ≡ octet ++ dot ∷ rest → ⊥

-- the text begins with an octet and a `.`, and behind each such start stands the rest
pub record FirstDotted (text rest : List ℕ) : Type 0 where
  pub octet : List ℕ
  pub is : IsOctet octet
  pub cut : text ≡ octet ++ dot ∷ rest
  pub only : (o : List ℕ) (r : List ℕ) → IsOctet o → text ≡ o ++ dot ∷ r → r ≡ rest

-- the text does not begin with three octets, each with a `.` behind it
abbrev pub NotInThree : List ℕ → Type 0
NotInThree text = IsIpv4 text → ⊥

-- the text is an IPv4 address exactly where what follows its third `.` is an octet
abbrev pub LastOfFour : List ℕ → List ℕ → Type 0
LastOfFour text last = (IsOctet last → IsIpv4 text) × (IsIpv4 text → IsOctet last)
