-- What a list in CSV gives.
use Rattle.std.specs.Prelude.{◌≡◌, ◌≢◌, ℕ, false, List, [], ◌∷◌, codes, length, Option, Some, None, IsSomeAnd, option_map, unwrap_or, ◌<◌, ◌^◌}
use Rattle.std.specs.Io.KnownBytes.{Keeps}
use Rattle.std.specs.String.{string_bytes}
use Rattle.std.specs.Str.Parse.{IsNumeral, digits_value, without_leading_plus}
use Rattle.csv.specs.Reading.{strip_bom}
use Rattle.csv.specs.Records.{field_at}
use Rattle.csv.specs.declared.parser.State.TheVariants.{StartRecord}
use Rattle.garde_csv.specs.Lists.{GivesNext, has_stopped, list_state, next_line, rest_of}
use Rattle.garde_csv.specs.declared.records.Next.{Next}
use Rattle.garde_csv.specs.declared.records.Next.TheVariants as next
use Rattle.garde_csv.specs.declared.records.Records.{Records}
use Rattle.example_import.specs.Line.{page_bytes}
use Rattle.example_import.specs.declared.row.Row.{Row}
use Rattle.example_import.specs.declared.item.Item.{Item}
use Rattle.example_import.specs.declared.item.Item.TheVariants as item
use Rattle.example_import.specs.declared.item.Flaw.TheVariants as flaw

-- the field of a record at a place, or an empty one where there is none
abbrev pub field : List (List ℕ) → ℕ → List ℕ
field fields place = unwrap_or (field_at fields place) []

-- decimal digits, perhaps behind a plus, of a number below 2^64
abbrev pub IsAmount : List ℕ → Type 0
IsAmount text = IsNumeral 10 (without_leading_plus text) × (digits_value 10 (without_leading_plus text) < 2 ^ 64)

-- the number that a text writes, or none
abbrev pub Writes : List ℕ → Option ℕ → Type 0
Writes text (Some number) = IsAmount text × (number ≡ digits_value 10 (without_leading_plus text))
Writes text None = ¬ IsAmount text

-- a text that is not empty
abbrev pub filled : List ℕ → Option (List ℕ)
filled [] = None
filled (b ∷ more) = Some (b ∷ more)

-- the row has what the fields write
pub record Spells (fields : List (List ℕ)) (row : Row) : Type 0 where
  pub code : string_bytes row.code ≡ field fields 0
  pub name : string_bytes row.name ≡ field fields 1
  pub quantity : Writes (field fields 2) row.quantity
  pub price : Writes (field fields 3) row.price
  pub page : page_bytes row.page ≡ filled (field fields 4)

-- a record without a fault is the row that its five fields spell, or it has more or fewer fields
abbrev pub IsRecord : List (List ℕ) → Item → Type 0
IsRecord fields (item.Row row) = (length fields ≡ 5) × Spells fields row
IsRecord fields (item.Broken flaw.Lengths) = length fields ≢ 5
IsRecord fields (item.Broken (flaw.Record fault)) = ⊥

-- what was read of the list is this item: a record without a fault, one with this fault, or the end of the list
abbrev pub IsItem : List (List ℕ) → Next → Option Item → Type 0
IsItem fields next.Row given = IsSomeAnd given (IsRecord fields)
IsItem fields (next.Faulty fault) given = given ≡ Some (item.Broken (flaw.Record fault))
IsItem fields next.End given = given ≡ None

-- the record that is read next gives the item, and the list can be read on
pub record Gives {R : Type 0} (remaining : R → Option (List ℕ)) (old : Records R) (given : Option Item) (new : Records R) : Type 0 where
  pub fields : List (List ℕ)
  pub answer : Next
  pub read : GivesNext (rest_of remaining old) (rest_of remaining new) old new fields answer
  pub is_item : IsItem fields answer given
  pub goes : has_stopped new ≡ false

-- the columns of a list, in their order
abbrev pub columns : List (List ℕ)
columns = codes "code" ∷ codes "name" ∷ codes "quantity" ∷ codes "price" ∷ codes "page" ∷ []

-- A list that was opened: its text was read from the first line on, without a byte order mark. The first record is the header, which
-- names the columns, and what is left of the text is the rest.
pub record Opens {R : Type 0} (remaining : R → Option (List ℕ)) (source : R) (list : Records R) : Type 0 where
  pub start : Records R
  pub bytes : Keeps (option_map strip_bom (remaining source)) (rest_of remaining start)
  pub state : list_state start ≡ StartRecord
  pub line : next_line start ≡ 1
  pub header : GivesNext (rest_of remaining start) (rest_of remaining list) start list columns next.Row
  pub goes : has_stopped list ≡ false
