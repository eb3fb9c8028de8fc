-- What a table of columns and rows spells, and what is asked of it.
use Rattle.std.specs.Prelude.{◌==◌, ◌≤◌, ℕ, List, [], ◌∷◌, length, zip, Bool, true, false, Result, Ok, Err}
use Rattle.std.specs.Borrow.{Bor}
use Rattle.std.specs.List.{list_any}
use Rattle.std.specs.Str.{bytes_eq}
use Rattle.json.specs.Json.{Json, string, object, Members, no_members, member}
use Rattle.garde_i18n.specs.Datum.{Datum}
use Rattle.garde_report.specs.Part.{index_part, key_part}
use Rattle.garde_tape.specs.Look.{find_answer}
use Rattle.garde.specs.Answers.{Answers}
use Rattle.garde.specs.Visits.{Visits, none, ◌and◌, under}
use Rattle.garde.specs.declared.validate_error.ValidateError.{ValidateError}
use Rattle.garde.specs.declared.validate_error.ValidateError.TheVariants as errors
use Rattle.garde_schema.specs.declared.fault.FormFault.TheVariants.{RowLength}
use Rattle.garde_schema.specs.Forms.{FormTexts, refused}
use Rattle.garde_schema.specs.Members.{member_visits, members_in, unknown}

-- a member for each pair of a name and a cell, in their order, whose value is the text of the cell
abbrev pub cell_members : List (List ℕ × List ℕ) → Members
cell_members [] = no_members
cell_members (p ∷ ps) = member p.0 (string p.1) (cell_members ps)

-- the row with these cells, under the names of these columns
abbrev pub row_json : List (List ℕ) → List (List ℕ) → Json
row_json columns cells = object (cell_members (zip columns cells))

-- whether a row has a cell for each column, and no more
abbrev pub is_whole : List (List ℕ) → List (List ℕ) → Bool
is_whole columns cells = length cells == length columns

-- what is asked of a row that is whole; of another one, that it is
abbrev pub if_whole : FormTexts → Bool → Visits → Visits
if_whole texts true visits = visits
if_whole texts false visits = refused (texts RowLength)

-- what is asked of the row of this index
abbrev pub row_visits : ℕ → FormTexts → (Json → Visits) → List (List ℕ) → List (List ℕ) → Visits
row_visits index texts visits columns cells =
    under (index_part index) (if_whole texts (is_whole columns cells) (visits (row_json columns cells)))

-- each of these columns stands in a header once
unfoldable pub each_known : List (Bor (List ℕ)) → FormTexts → Json → Visits
each_known [] texts header = none
each_known (name ∷ names) texts header =
    under (key_part name.now) (member_visits texts (λ _. none) (find_answer name.now header)) and each_known names texts header

-- whether a column is one of these
abbrev pub is_among : List (Bor (List ℕ)) → List ℕ → Bool
is_among names column = list_any (λ name. bytes_eq name.now column) names

-- what is asked of a header: this of its columns, and no column of another name
abbrev pub header_visits : (Json → Visits) → (List ℕ → Bool) → FormTexts → List (List ℕ) → Visits
header_visits visits names texts header =
    visits (row_json header header) and unknown names texts (members_in (row_json header header))

-- The result of reading a row or a header with these columns. Of more than eight no reason is promised for `Memory`.
abbrev pub AnswersRow : List (List ℕ) → Visits → (Datum → List ℕ) → Result (Unit {0}) ValidateError → Type 0
AnswersRow columns visits text (Ok done) = Answers visits text (Ok done)
AnswersRow columns visits text (Err (errors.Report report)) = Answers visits text (Err (errors.Report report))
AnswersRow columns visits text (Err errors.Memory) = length columns ≤ 8 → Answers visits text (Err errors.Memory)
