-- What an import makes of a table.
use Rattle.std.specs.Prelude.{◌≡◌, ℕ, ◌+◌, Bool, true, false, List, [], ◌∷◌, ◌++◌, codes}
use Rattle.std.specs.String.{string_bytes}
use Rattle.garde.specs.Tree.{Tree, flat}
use Rattle.garde.specs.Visits.{Known}
use Rattle.garde.specs.Handlers.{Datum}
use Rattle.garde.specs.Words.{index_part, key_part, Entry}
use Rattle.garde_csv.specs.Texts.{fault_text}
use Rattle.example_import.specs.Row.{row_visits}
use Rattle.example_import.specs.Line.{Line, line_of, HasCode}
use Rattle.example_import.specs.declared.row.Row.{Row}
use Rattle.example_import.specs.declared.item.Flaw.{Flaw}
use Rattle.example_import.specs.declared.item.Flaw.TheVariants as flaw
use Rattle.example_import.specs.declared.item.Item.{Item}
use Rattle.example_import.specs.declared.item.Item.TheVariants as item

-- the fault of a record that is no row
abbrev pub flaw_text : Flaw → List ℕ
flaw_text flaw.Lengths = codes "not as many fields as in the header"
flaw_text (flaw.Record fault) = fault_text fault

-- the fault of a row whose code the table has
abbrev pub stored_before : ℕ → Entry
stored_before index = (index_part index ∷ key_part (codes "code") ∷ [], codes "stored before")

abbrev pub code_faults : ℕ → Bool → List Entry
code_faults index true = stored_before index ∷ []
code_faults index false = []

-- the report is every fault of the row, each under its index: those of its rules, with these texts, and then that of its code, if it is stored
unfoldable pub IsReport : (Datum → List ℕ) → ℕ → Row → Bool → List Entry → Type 0
IsReport text index row is_stored report = (t : Tree) × (row_visits row).trees t × (report ≡ flat text (index_part index ∷ []) t ++ code_faults index is_stored)

-- whether the table has the code
abbrev pub Tells : List ℕ → List Line → Bool → Type 0
Tells code lines true = HasCode code lines
Tells code lines false = ¬ HasCode code lines

-- a row without a fault is valid, and it stands behind the others now; one with a fault changes nothing
abbrev pub Stores : List Line → Row → List Entry → List Line → Type 0
Stores old row [] new = Known (row_visits row) × (new ≡ old ++ line_of row ∷ [])
Stores old row (fault ∷ more) new = new ≡ old

-- what is reported of an item of the list, and what the table has afterwards
abbrev pub Takes : (Datum → List ℕ) → ℕ → List Line → Item → List Entry → List Line → Type 0
Takes text index old (item.Row row) report new =
    (is_stored : Bool) × Tells (string_bytes row.code) old is_stored × IsReport text index row is_stored report × Stores old row report new
Takes text index old (item.Broken broken) report new = (report ≡ (index_part index ∷ [], flaw_text broken) ∷ []) × (new ≡ old)

-- an item of the list, and what was reported of it
abbrev pub Turn : Type 0
Turn = Item × List Entry

-- the items are taken one after the other, the first under this index
abbrev pub Imports : (Datum → List ℕ) → ℕ → List Line → List Turn → List Line → Type 0
Imports text index old [] new = new ≡ old
Imports text index old (turn ∷ more) new = (mid : List Line) × Takes text index old turn.0 turn.1 mid × Imports text (index + 1) mid more new
