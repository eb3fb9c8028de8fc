-- What the reading of a part of a text does to a record.
use Rattle.std.specs.Prelude.{◌≡◌, ◌++◌, ℕ, List, Bool, true, false, Some}
use Rattle.csv.specs.Machine.{next_record}
use Rattle.csv.specs.Reading.{default_config}
use Rattle.garde_csv.specs.Quotes.{Seen, seen_in}

-- a record that was read up to here, with these cells, these bytes of the cell at hand and these bytes left, and the same record
-- further on: `csv` reads the same record from both, and the same is seen of it
abbrev pub SameRecord : Seen → List (List ℕ) → List ℕ → List ℕ → Seen → List (List ℕ) → List ℕ → List ℕ → Type 0
SameRecord a fields field xs b fields2 field2 ys =
    (next_record default_config a.state fields field xs ≡ next_record default_config b.state fields2 field2 ys) × (seen_in a xs ≡ seen_in b ys)

-- the record that is read on from here ends with these cells, and these bytes are left behind it
abbrev pub EndsRecord : Seen → List (List ℕ) → List ℕ → List ℕ → Seen → List (List ℕ) → List ℕ → Type 0
EndsRecord a fields field xs b fields2 ys =
    (next_record default_config a.state fields field xs ≡ Some (fields2, b.state, ys)) × (seen_in a xs ≡ b)

-- the front of a text was read, up to these bytes, and whatever stands behind the text: the record has ended there, or goes on
abbrev pub Reads : Seen → List (List ℕ) → List ℕ → List ℕ → Seen → List (List ℕ) → List ℕ → List ℕ → Bool → Type 0
Reads a fields field xs b fields2 field2 ys true = (rest : List ℕ) → EndsRecord a fields field (xs ++ rest) b fields2 (ys ++ rest)
Reads a fields field xs b fields2 field2 ys false = (rest : List ℕ) → SameRecord a fields field (xs ++ rest) b fields2 field2 (ys ++ rest)
