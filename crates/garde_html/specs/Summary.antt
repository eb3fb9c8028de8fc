-- The list of all faults above a form. The markup is that of the constants of `src/summary.rt`.
use Rattle.std.specs.Prelude.{ℕ, Bool, true, false, ◌==◌, ◌||◌, nat_eq, if◌then◌else◌, List, [], ◌∷◌, ◌++◌, length, Option, Some, None}
use Rattle.std.specs.List.{starts_with}
use Rattle.garde_report.specs.Part.{Part}
use Rattle.garde_report.specs.Report.{Entry}
use Rattle.garde_html.specs.declared.form.Field.{Field}
use Rattle.garde_html.specs.declared.form.Form.{Form}
use Rattle.garde_html.specs.declared.summary.TheConstants as plain
use Rattle.garde_html.specs.Form.{field_at}
use Rattle.garde_html.specs.Page.{Written, markup, text}

-- the text of the first component of a path
abbrev pub first_text : List Part → Option (List ℕ)
first_text [] = None
first_text (p ∷ ps) = Some p.text

-- a text has another one as a part
abbrev pub has_part : List ℕ → List ℕ → Bool
has_part part [] = false
has_part part (b ∷ bs) = starts_with nat_eq (b ∷ bs) part || has_part part bs

-- the label before a message that does not name it
abbrev pub label_pieces : Bool → List ℕ → List Written
label_pieces true label = []
label_pieces false label = text label ∷ markup plain.SAYS.now ∷ []

-- a fault under a name, which leads to the field of this name, if there is one
abbrev pub named_pieces : Option Field → List ℕ → List ℕ → List Written
named_pieces (Some field) name message =
    markup plain.LINK.now ∷ text field.name.now ∷ markup plain.LINK_TEXT.now
    ∷ (label_pieces (has_part field.label.now message) field.label.now ++ text message ∷ markup plain.LINK_END.now ∷ [])
named_pieces None name message =
    markup plain.NAMED.now ∷ text name ∷ markup plain.NAMED_SAYS.now ∷ text message ∷ markup plain.ITEM_END.now ∷ []

-- a fault
abbrev pub entry_pieces : List Field → Option (List ℕ) → List ℕ → List Written
entry_pieces fields (Some name) message = named_pieces (field_at fields name) name message
entry_pieces fields None message = markup plain.ITEM.now ∷ text message ∷ markup plain.ITEM_END.now ∷ []

-- each fault of the report once, in its order
abbrev pub entries_pieces : List Field → List Entry → List Written
entries_pieces fields [] = []
entries_pieces fields (e ∷ es) = entry_pieces fields (first_text e.0) e.1 ++ entries_pieces fields es

-- the list of all faults, if there is one
abbrev pub summary_pieces : Form → List Entry → List Written
summary_pieces form entries = if length entries == 0 then []
    else markup plain.SUMMARY.now ∷ text form.summary.now ∷ markup plain.SUMMARY_LIST.now
    ∷ (entries_pieces form.fields.now entries ++ markup plain.SUMMARY_END.now ∷ [])
