-- Laws of texts within HTML, and of faults at fields.
use Rattle.std.specs.Prelude.{◌≡◌, ◌==◌, ◌||◌, not, ℕ, Bool, true, false, List, ◌∷◌, [], ◌++◌, Some, All, codes, filter}
use Rattle.std.specs.List.{Contains, list_all, slice_split}
use Rattle.garde_report.specs.Part.{Part}
use Rattle.garde_report.specs.Report.{Entry, begins_with}
use Rattle.garde_html.specs.declared.form.Control.{Control}
use Rattle.garde_html.specs.declared.form.Control.TheVariants.{Line, Area, Password, Boxes, Radios, Select}
use Rattle.garde_html.specs.declared.form.Field.{Field}
use Rattle.garde_html.specs.declared.form.Form.{Form}
use Rattle.garde_html.specs.declared.document.TheConstants as plain
use Rattle.garde_html.specs.Controls.{field_pieces}
use Rattle.garde_html.specs.Document.{form_pieces}
use Rattle.garde_html.specs.Fields.{field_of}
use Rattle.garde_html.specs.Form.{Typed, is_checked, typed_text}
use Rattle.garde_html.specs.Html.{html_text, html_read, is_ending}
use Rattle.garde_html.specs.Page.{Written, blank, markup, markup_of, rendered, text}
use Rattle.garde_html.specs.Summary.{entries_pieces, entry_pieces, first_text, has_part}

-- no byte of an escaped text ends a text, a tag or an attribute
abbrev pub TextsEndNothing : Type 0
TextsEndNothing = (text : List ℕ) → All (λ b. is_ending b ≡ false) (html_text text)

-- an escaped text is read back
abbrev pub TextsAreRead : Type 0
TextsAreRead = (text : List ℕ) → html_read (html_text text) ≡ Some text

-- the byte that ends the text is the first that does, whatever follows it
abbrev pub TextsEndAtTheirEnds : Type 0
TextsEndAtTheirEnds = (text rest : List ℕ) (stop : ℕ) → is_ending stop ≡ true
    → slice_split (λ b. b == stop) (html_text text ++ stop ∷ rest) ≡ html_text text ∷ slice_split (λ b. b == stop) rest

-- a fault at a field is one of those that are selected by its name
abbrev pub FaultsHavePlaces : Type 0
FaultsHavePlaces = (fields : List (List ℕ)) (path : List Part) (field : List ℕ)
    → field_of fields path ≡ Some field → begins_with (field ∷ []) path ≡ true

-- a fault stands once in the summary with its message, behind those before it and before those behind it
abbrev pub FaultsStandInTheSummary : Type 0
FaultsStandInTheSummary = (fields : List Field) (before : List Entry) (e : Entry) (after : List Entry)
    → (entries_pieces fields (before ++ e ∷ after)
    ≡ entries_pieces fields before ++ (entry_pieces fields (first_text e.0) e.1 ++ entries_pieces fields after))
    × Contains (entry_pieces fields (first_text e.0) e.1) (text e.1)

-- the message of a fault at a field or under it stands beside the field
abbrev pub FaultsStandBesideTheirFields : Type 0
FaultsStandBesideTheirFields = (field : Field) (typed : List Typed) (entries : List Entry) (e : Entry)
    → Contains entries e → begins_with (field.name.now ∷ []) e.0 ≡ true → Contains (field_pieces field typed entries) (text e.1)

-- the `<`, `>`, `"` and `'` of a page are those of its markup
abbrev pub TextsAddNoMarkup : Type 0
TextsAddNoMarkup = (pieces : List Written) → filter is_ending (rendered pieces) ≡ filter is_ending (rendered (markup_of pieces))

-- the same texts were sent for a name
abbrev pub AreSentAlike : List ℕ → List Typed → List Typed → Type 0
AreSentAlike name typed other = (value : List ℕ) → is_checked name value typed ≡ is_checked name value other

-- the same boxes, buttons or lines of a list are checked; of a text and of a password nothing is asked
abbrev pub IsCheckedAlike : Control → List ℕ → List Typed → List Typed → Type 0
IsCheckedAlike (Line kind) name typed other = Unit {0}
IsCheckedAlike Area name typed other = Unit {0}
IsCheckedAlike Password name typed other = Unit {0}
IsCheckedAlike (Boxes boxes) name typed other = AreSentAlike name typed other
IsCheckedAlike (Radios buttons) name typed other = AreSentAlike name typed other
IsCheckedAlike (Select options) name typed other = AreSentAlike name typed other

-- where the same boxes are checked, what was typed changes nothing of a page but its texts
abbrev pub TypedIsText : Type 0
TypedIsText = (form : Form) (typed other : List Typed) (entries : List Entry)
    → All (λ (f : Field). IsCheckedAlike f.control f.name.now typed other) form.fields.now
    → blank (form_pieces form typed entries) ≡ blank (form_pieces form other entries)

-- the same is shown of what was typed into a field; of a password nothing is shown
abbrev pub IsShownAlike : Control → List ℕ → List Typed → List Typed → Type 0
IsShownAlike (Line kind) name typed other = typed_text name typed ≡ typed_text name other
IsShownAlike Area name typed other = typed_text name typed ≡ typed_text name other
IsShownAlike Password name typed other = Unit {0}
IsShownAlike (Boxes boxes) name typed other = AreSentAlike name typed other
IsShownAlike (Radios buttons) name typed other = AreSentAlike name typed other
IsShownAlike (Select options) name typed other = AreSentAlike name typed other

-- what was typed into passwords changes nothing of a page
abbrev pub PasswordsAreKeptOff : Type 0
PasswordsAreKeptOff = (form : Form) (typed other : List Typed) (entries : List Entry)
    → All (λ (f : Field). IsShownAlike f.control f.name.now typed other) form.fields.now
    → form_pieces form typed entries ≡ form_pieces form other entries

-- the attributes by which a browser holds a text back, or takes none: what a piece of markup with one of them has as a part
abbrev pub CONSTRAINTS : List (List ℕ)
CONSTRAINTS =
    codes " required" ∷ codes "length=" ∷ codes "pattern=" ∷ codes " min=" ∷ codes " max=" ∷ codes " step=" ∷ codes "disabled" ∷ codes "readonly" ∷ []

-- a text, or markup with none of them
abbrev pub holds_nothing : Written → Bool
holds_nothing p = not p.0 || list_all (λ (name : List ℕ). not (has_part name p.1)) CONSTRAINTS

-- a page sends its form whatever was typed, since no piece of it holds anything back
abbrev pub NothingIsHeldBack : Type 0
NothingIsHeldBack = (form : Form) (typed : List Typed) (entries : List Entry)
    → (has_part (codes " novalidate") plain.FORM_END.now ≡ true)
    × Contains (form_pieces form typed entries) (markup plain.FORM_END.now)
    × (list_all holds_nothing (form_pieces form typed entries) ≡ true)
