-- What is known of a row that is read back.
use Rattle.std.specs.Prelude.{◌≡◌, ℕ, ℤ, pos, negsuc, true, List, [], ◌∷◌, Option, Some, None}
use Rattle.std.specs.String.{string_bytes}
use Rattle.garde.specs.Tree.{Tree, bears, flat}
use Rattle.garde.specs.Visits.{Known}
use Rattle.garde.specs.Words.{default_text, index_part}
use Rattle.sqlite.specs.Edit.{id_in}
use Rattle.sqlite.specs.Order.{Row, column}
use Rattle.sqlite.specs.Tree.{rowid}
use Rattle.example_import.specs.Line.{Cell, nothing, number, text, other, Line, text_cell, page_bytes}
use Rattle.example_import.specs.Row.{row_visits}
use Rattle.example_import.specs.declared.row.Row as article
use Rattle.example_table.specs.Stock.{behind, cell, line_in}
use Rattle.example_table.specs.declared.reading.Stored.{Stored}
use Rattle.example_table.specs.declared.reading.Stored.TheVariants as stored

-- the number in a cell, where it has no sign
abbrev pub unsigned : Cell → Option ℕ
unsigned nothing = None
unsigned (number (pos n)) = Some n
unsigned (number (negsuc n)) = None
unsigned (text t) = None
unsigned other = None

-- the line that a row of a query shows, behind its rowid
abbrev pub line_shown : Row → Line
line_shown r = record { code = cell (column r 1); name = cell (column r 2); quantity = cell (column r 3); price = cell (column r 4); page = cell (column r 5) }

-- the row of an article has what stands in the line
pub record Spells (line : Line) (row : article.Row) : Type 0 where
  pub code : line.code ≡ text (string_bytes row.code)
  pub name : line.name ≡ text (string_bytes row.name)
  pub quantity : row.quantity ≡ unsigned line.quantity
  pub price : row.price ≡ unsigned line.price
  pub page : line.page ≡ text_cell (page_bytes row.page)

-- What the rules ask holds of the row, and it is given. Or the report has every fault of it, each under its index.
abbrev pub IsStoredAs : ℕ → article.Row → Stored → Type 0
IsStoredAs index row (stored.Valid given) = (given ≡ row) × Known (row_visits row)
IsStoredAs index row (stored.Faulty report) = (t : Tree) × (row_visits row).trees t × (bears t ≡ true) × (report ≡ flat default_text (index_part index ∷ []) t)

-- What the rules ask holds of a valid row. Of another one the report has every fault, each under the index of the row.
abbrev pub IsStored : ℕ → Stored → Type 0
IsStored index (stored.Valid row) = Known (row_visits row)
IsStored index (stored.Faulty report) = (row : article.Row) × IsStoredAs index row (stored.Faulty report)

-- this row of the table was read under this index
abbrev pub IsRow : ℕ → Row → Stored → Type 0
IsRow index r given = (row : article.Row) × Spells (line_in r) row × IsStoredAs index row given

-- What is read of a table behind the row with the rowid `last`: the first row there, whose rowid is `now`, and then the rows behind that one are left. Or nothing, where no row is there.
abbrev pub Reads : List Row → ℤ → ℕ → Option Stored → ℤ → Type 0
Reads rows last index None now = (behind last rows ≡ []) × (now ≡ last)
Reads rows last index (Some given) now = (r : Row) × (behind last rows ≡ r ∷ behind now rows) × (now ≡ id_in (rowid r)) × IsRow index r given
