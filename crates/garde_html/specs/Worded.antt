-- Faults as one says them to who fills in a form.
use Rattle.std.specs.Prelude.{ℕ, Bool, true, false, ◌==◌, ◌&&◌, not, cond, if◌then◌else◌, List, [], ◌∷◌, ◌++◌, length, take, map, codes, Option, None, Some}
use Rattle.std.specs.Str.{trim}
use Rattle.garde_i18n.specs.Datum.{Datum, named, with_param}
use Rattle.garde_report.specs.Part.{key_part}
use Rattle.garde_report.specs.Report.{Entry}
use Rattle.garde_html.specs.declared.form.Control.{Control}
use Rattle.garde_html.specs.declared.form.Control.TheVariants.{Line, Area, Password, Boxes, Radios, Select}
use Rattle.garde_html.specs.declared.form.Field.{Field}
use Rattle.garde_html.specs.declared.worded.Said as declared
use Rattle.garde_html.specs.Controls.{is_faulty}
use Rattle.garde_html.specs.Form.{Typed, field_at, typed_text}
use Rattle.garde_html.specs.Summary.{first_text}

-- the texts of a handler
abbrev pub Texts : Type 0
Texts = Datum → List ℕ

-- a code whose parameter is the label of a field, and what it says in English
abbrev pub Said : Type 0
Said = List ℕ × List ℕ

abbrev pub said_of : declared.Said → Said
said_of said = (said.code.now, said.english.now)

-- what is said of a field with this control that was left empty; each box may be left as it is
abbrev pub left_said : Control → Option Said
left_said (Line kind) = Some (codes "field_empty", codes "fill this in")
left_said Area = Some (codes "field_empty", codes "fill this in")
left_said Password = Some (codes "field_empty", codes "fill this in")
left_said (Boxes boxes) = None
left_said (Radios buttons) = Some (codes "field_unchosen", codes "choose one of these")
left_said (Select options) = Some (codes "field_unchosen", codes "choose one of these")

-- what is said of a password that is not shown again
abbrev pub again_said : Said
again_said = (codes "field_again", codes "type this again")

-- the message that says this of the field of this label
abbrev pub about : Texts → Said → List ℕ → List ℕ
about text said label = text (named (with_param said.0 (codes "label") label) said.1)

-- the message of a fault of a field of this label, for which this was typed
abbrev pub left_message : Texts → Option Said → List ℕ → List ℕ → List ℕ → List ℕ
left_message text None label typed message = message
left_message text (Some said) label typed message = if length (trim typed) == 0 then about text said label else message

-- the message of a fault of a field: where it was left empty it asks to fill it in
abbrev pub worded_field : Texts → Field → List Typed → List ℕ → List ℕ
worded_field text field typed message =
    left_message text (left_said field.control) field.label.now (typed_text field.name.now typed) message

abbrev pub if_field : Texts → Option Field → List Typed → List ℕ → List ℕ
if_field text None typed message = message
if_field text (Some field) typed message = worded_field text field typed message

-- the message of a fault under a name, or under none
abbrev pub worded_message : Texts → List Field → List Typed → Option (List ℕ) → List ℕ → List ℕ
worded_message text fields typed None message = message
worded_message text fields typed (Some name) message = if_field text (field_at fields name) typed message

-- a fault where it is
abbrev pub worded_entry : Texts → List Field → List Typed → Entry → Entry
worded_entry text fields typed e = (e.0, worded_message text fields typed (first_text e.0) e.1)

abbrev pub is_password : Control → Bool
is_password Password = true
is_password _ = false

-- a password that was typed and has no fault
abbrev pub is_again : Field → List Typed → List Entry → Bool
is_again field typed entries =
    is_password field.control && (not (length (typed_text field.name.now typed) == 0) && not (is_faulty field entries))

-- such passwords are to be typed again
abbrev pub again_entries : Texts → List Typed → List Entry → List Field → List Entry
again_entries text typed entries [] = []
again_entries text typed entries (f ∷ fs) =
    cond (is_again f typed entries)
    ((key_part f.name.now ∷ [], about text again_said f.label.now) ∷ again_entries text typed entries fs)
    (again_entries text typed entries fs)

-- the first hundred faults, and the passwords that are to be typed again
abbrev pub worded : Texts → List Field → List Typed → List Entry → List Entry
worded text fields typed entries =
    map (λ (e : Entry). worded_entry text fields typed e) (take 100 entries) ++ again_entries text typed entries fields
