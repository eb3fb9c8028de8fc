-- A form as a page. The markup is that of the constants of `src/document.rt`, and the stylesheet that of `src/style.rt`.
use Rattle.std.specs.Prelude.{ℕ, ◌==◌, if◌then◌else◌, List, [], ◌∷◌, ◌++◌, length}
use Rattle.garde_report.specs.Report.{Entry}
use Rattle.garde_html.specs.declared.form.Form.{Form}
use Rattle.garde_html.specs.declared.document.TheConstants as plain
use Rattle.garde_html.specs.declared.style.TheConstants as style
use Rattle.garde_html.specs.Controls.{fields_pieces}
use Rattle.garde_html.specs.Form.{Typed}
use Rattle.garde_html.specs.Page.{Written, markup, text}
use Rattle.garde_html.specs.Summary.{summary_pieces}

-- the title says that there are faults, if there are any
abbrev pub title_of : Form → List Entry → List ℕ
title_of form entries = if length entries == 0 then form.title.now else form.faulty_title.now

-- the beginning of a page, up to its title
abbrev pub begin_pieces : Form → List ℕ → List Written
begin_pieces form title =
    markup plain.BEGIN.now ∷ text form.language.now ∷ markup plain.DIRECTION.now ∷ text form.direction.now
    ∷ markup plain.TITLE.now ∷ text title ∷ []

-- how a page looks, and its heading
abbrev pub heading_pieces : List ℕ → List Written
heading_pieces heading =
    markup plain.STYLE_BEGIN.now ∷ markup style.STYLE.now ∷ markup plain.STYLE_END.now ∷ text heading ∷ markup plain.HEADING_END.now ∷ []

-- what stands before the faults
abbrev pub head_pieces : Form → List ℕ → List Written
head_pieces form title = begin_pieces form title ++ heading_pieces form.title.now

-- the beginning of a form, which says where it is sent
abbrev pub form_begin : Form → List Written
form_begin form = markup plain.FORM.now ∷ text form.action.now ∷ markup plain.FORM_END.now ∷ []

-- what stands behind the fields
abbrev pub end_pieces : Form → List Written
end_pieces form = markup plain.SEND.now ∷ text form.send.now ∷ markup plain.END.now ∷ []

-- the page round these fields
abbrev pub around_fields : Form → List Entry → List Written → List Written
around_fields form entries fields =
    head_pieces form (title_of form entries) ++ (summary_pieces form entries ++ (form_begin form ++ (fields ++ end_pieces form)))

-- the page of a form, with what was typed and these faults
abbrev pub form_pieces : Form → List Typed → List Entry → List Written
form_pieces form typed entries = around_fields form entries (fields_pieces typed entries form.fields.now)
