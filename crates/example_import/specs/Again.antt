-- A list that is imported once more, where an import of it stopped.
use Rattle.std.specs.Prelude.{◌≡◌, ℕ, List, ◌++◌, map}
use Rattle.garde.specs.Handlers.{Datum}
use Rattle.example_import.specs.Line.{Line}
use Rattle.example_import.specs.Import.{Turn, Imports}
use Rattle.example_import.specs.declared.item.Item.{Item}

abbrev pub items_of : List Turn → List Item
items_of turns = map (λ (turn : Turn). turn.0) turns

-- The first items of a list made one table of another. Then an import of the whole list, which takes these items once more, makes of it
-- what the whole list makes of the table before: each of them keeps its report, and the others have the reports of this second import.
abbrev pub RunsAgain : Type 0
RunsAgain =
    (text : Datum → List ℕ) (before mid after : List Line) (front again more : List Turn) → Imports text 0 before front mid
    → items_of again ≡ items_of front → Imports text 0 mid (again ++ more) after → Imports text 0 before (front ++ more) after
