-- Numbers that digits alone write, with no zero before others. They are read far faster than decimals.
use Rattle.std.specs.Prelude.{◌≡◌, ℕ, nat_le, Bool, false, List, Option, Some}
use Rattle.json.specs.Json.{Json}
use Rattle.json.specs.Find.{as_number}
use Rattle.garde_decimal.specs.Value.{Rational, decimal_of}

-- the number of these digits
abbrev pub whole : ℕ → Rational
whole n = record { negative = false; digits = n; up = 0; down = 0 }

-- a value is the number that such a text writes
abbrev pub IsWhole : Json → ℕ → Type 0
IsWhole j n = (text : List ℕ) × (as_number j ≡ Some text) × (decimal_of text ≡ Some (whole n))

-- both are there, and the first is not above the other
abbrev pub ordered : Option ℕ → Option ℕ → Bool
ordered (Some least) (Some most) = nat_le least most
ordered _ _ = false
