-- What the fields of a form say besides their names and texts. The markup is that of the constants of `src/marks.rt`.
use Rattle.std.specs.Prelude.{ℕ, Bool, true, false, List, [], ◌∷◌, ◌++◌, Option, Some, None}
use Rattle.std.specs.Borrow.{Bor}
use Rattle.garde_html.specs.declared.form.Field.{Field}
use Rattle.garde_html.specs.declared.marks.TheConstants as plain
use Rattle.garde_html.specs.Page.{Written, markup, text}

-- this markup, or none
abbrev pub mark : List ℕ → Bool → List ℕ
mark begin true = begin
mark begin false = []

-- what is said beforehand of the field of this name, if there is anything
abbrev pub hint_pieces : List ℕ → Option (Bor (List ℕ)) → List Written
hint_pieces name None = []
hint_pieces name (Some hint) =
    markup plain.HINT.now ∷ text name ∷ markup plain.HINT_TEXT.now ∷ text hint.now ∷ markup plain.HINT_END.now ∷ []

-- an attribute, if it has a value
abbrev pub attribute_pieces : List ℕ → Option (Bor (List ℕ)) → List Written
attribute_pieces begin None = []
attribute_pieces begin (Some value) = markup begin ∷ text value.now ∷ []

-- what a browser is told of a line besides its type
abbrev pub marks_pieces : Field → List Written
marks_pieces field =
    attribute_pieces plain.AUTOCOMPLETE.now field.autocomplete
    ++ (attribute_pieces plain.INPUT_MODE.now field.inputmode ++ markup (mark plain.REQUIRED.now field.required) ∷ [])

-- what describes the field of this name: its hint, and the faults beside it
abbrev pub described_pieces : List ℕ → Option (Bor (List ℕ)) → Bool → List Written
described_pieces name None false = []
described_pieces name None true = markup plain.BY_FAULTS.now ∷ text name ∷ []
described_pieces name (Some hint) false = markup plain.BY_HINT.now ∷ text name ∷ []
described_pieces name (Some hint) true = markup plain.BY_HINT.now ∷ text name ∷ markup plain.AND_FAULTS.now ∷ text name ∷ []

-- the end of a control, which says whether the field has faults, and names what describes it
abbrev pub control_end : Field → Bool → List Written
control_end field faulty =
    markup (mark plain.INVALID.now faulty) ∷ (described_pieces field.name.now field.hint faulty ++ markup plain.CONTROL_END.now ∷ [])
