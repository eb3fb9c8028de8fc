-- The form as a page.
use Rattle.std.specs.Prelude.{◌≡◌, ℕ, List, [], map}
use Rattle.garde_html.specs.Document.{form_pieces}
use Rattle.garde_html.specs.Form.{Typed}
use Rattle.garde_html.specs.Page.{rendered}
use Rattle.garde_html.specs.Worded.{Texts, worded}
use Rattle.garde_html.specs.declared.form.Form.{Form}
use Rattle.garde_report.specs.Report.{Entry}

-- the text of the page of the form to which nothing was sent
abbrev pub empty_page : Form → List ℕ
empty_page form = rendered (form_pieces form [] [])

-- the text is that of the page of the form with these fields and these faults, as these texts word them
abbrev pub IsShown : Form → Texts → List (List ℕ × List ℕ) → List Entry → List ℕ → Type 0
IsShown form text fields entries html =
    (typed : List Typed) × (map (λ (t : Typed). (t.0.now, t.1.now)) typed ≡ fields)
    × (html ≡ rendered (form_pieces form typed (worded text form.fields.now typed entries)))
