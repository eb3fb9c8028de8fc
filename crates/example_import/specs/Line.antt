-- The lines of a table.
use Rattle.std.specs.Prelude.{ℕ, ℤ, pos, List, [], ◌∷◌, Option, Some, None, String, ◌≡◌, ◌⊎◌}
use Rattle.std.specs.String.{string_bytes}
use Rattle.example_import.specs.declared.row.Row.{Row}

-- what stands in a column of a line
pub data Cell : Type 0 where
  nothing : Cell
  number : ℤ → Cell
  text : List ℕ → Cell
  other : Cell

pub record Line : Type 0 where
  pub code : Cell
  pub name : Cell
  pub quantity : Cell
  pub price : Cell
  pub page : Cell

abbrev pub number_cell : Option ℕ → Cell
number_cell None = nothing
number_cell (Some n) = number (pos n)

abbrev pub text_cell : Option (List ℕ) → Cell
text_cell None = nothing
text_cell (Some t) = text t

abbrev pub page_bytes : {Z : Type 0} → Option (String Z) → Option (List ℕ)
page_bytes None = None
page_bytes (Some page) = Some (string_bytes page)

-- the line of a row
abbrev pub line_of : Row → Line
line_of row = record {
  code = text (string_bytes row.code);
  name = text (string_bytes row.name);
  quantity = number_cell row.quantity;
  price = number_cell row.price;
  page = text_cell (page_bytes row.page);
}

-- a line of the table has this code
abbrev pub HasCode : List ℕ → List Line → Type 0
HasCode code [] = ⊥
HasCode code (line ∷ lines) = (line.code ≡ text code) ⊎ HasCode code lines
