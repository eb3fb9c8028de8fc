-- What a page shows of what was typed.
use Rattle.std.proofs.Common.{◌≡◌, ℕ, Bool, true, false, cond, List, [], ◌∷◌, ◌++◌, All, refl, sym, ap, ap₂, ◌∙◌}
use Rattle.std.specs.Prelude.{filter}
use Rattle.std.proofs.lemmas.List.{map-append}
use Rattle.std.proofs.lemmas.List.Elements.{All-head, All-tail, filter-append}
use Rattle.garde_report.specs.Report.{Entry}
use Rattle.garde_html.specs.declared.form.Control.{Control}
use Rattle.garde_html.specs.declared.form.Control.TheVariants.{Line, Area, Password, Boxes, Radios, Select}
use Rattle.garde_html.specs.declared.form.Field.{Field}
use Rattle.garde_html.specs.declared.controls.TheConstants as plain
use Rattle.garde_html.specs.Controls.{area_pieces, begin_pieces, box_pieces, boxes_pieces, control_pieces, field_pieces, fields_pieces, filled_pieces, group_pieces, is_faulty, line_pieces, list_pieces, option_pieces, options_pieces, radio_group_pieces, radio_pieces, radios_pieces, rest_pieces, select_pieces, under_legend, value_pieces, with_messages}
use Rattle.garde_html.specs.Document.{around_fields, end_pieces, form_begin, head_pieces, title_of}
use Rattle.garde_html.specs.Form.{Typed, typed_text}
use Rattle.garde_html.specs.Html.{html_text, is_ending}
use Rattle.garde_html.specs.Page.{Written, blank, blank_piece, markup, markup_of, rendered, rendered_piece, text}
use Rattle.garde_html.specs.Summary.{summary_pieces}
use Rattle.garde_html.specs.Laws.{AreSentAlike, IsCheckedAlike, IsShownAlike, PasswordsAreKeptOff, TextsAddNoMarkup, TypedIsText}
use Rattle.garde_html.proofs.Entities.{AreFree, free_text}

-- ---- texts add no markup

none_ends : (bs : List ℕ) → AreFree bs → filter is_ending bs ≡ []
none_ends [] free = refl
none_ends (b ∷ bs) free = rw free.0 (none_ends bs free.1)

-- a piece adds its own, if it is markup
by_kind : (is_markup : Bool) (bytes : List ℕ) (p : Written) (ps kept : List Written) → p.0 ≡ is_markup → p.1 ≡ bytes
    → filter is_ending (rendered ps) ≡ filter is_ending (rendered kept)
    → filter is_ending (cond is_markup bytes (html_text bytes) ++ rendered ps) ≡ filter is_ending (rendered (cond is_markup (p ∷ kept) kept))
by_kind true bytes p ps kept is same rest =
    let own : rendered_piece p ≡ bytes = rw (is, same) refl in
    filter-append is_ending bytes (rendered ps)
    ∙ ap (λ (bs : List ℕ). filter is_ending bytes ++ bs) rest
    ∙ sym (filter-append is_ending bytes (rendered kept))
    ∙ ap (λ (bs : List ℕ). filter is_ending (bs ++ rendered kept)) (sym own)
by_kind false bytes p ps kept is same rest =
    filter-append is_ending (html_text bytes) (rendered ps)
    ∙ ap (λ (bs : List ℕ). bs ++ filter is_ending (rendered ps)) (none_ends (html_text bytes) (free_text bytes))
    ∙ rest

pub texts_add_no_markup : TextsAddNoMarkup
texts_add_no_markup [] = refl
texts_add_no_markup (p ∷ ps) = by_kind p.0 p.1 p ps (markup_of ps) refl refl (texts_add_no_markup ps)

-- ---- boxes

same_boxes : (f : Field) (faulty : Bool) (typed other : List Typed)
    → AreSentAlike f.name.now typed other
    → (boxes : List Typed) → boxes_pieces f typed faulty boxes ≡ boxes_pieces f other faulty boxes
same_boxes f faulty typed other alike [] = refl
same_boxes f faulty typed other alike (one ∷ boxes) =
    ap₂ (λ (checked : Bool) (rest : List Written). box_pieces f one checked faulty ++ rest)
    (alike one.0.now) (same_boxes f faulty typed other alike boxes)

same_group : (f : Field) (faulty : Bool) (typed other : List Typed)
    → AreSentAlike f.name.now typed other
    → (boxes : List Typed) → group_pieces f typed faulty boxes ≡ group_pieces f other faulty boxes
same_group f faulty typed other alike boxes =
    ap (λ (middle : List Written). under_legend f middle) (same_boxes f faulty typed other alike boxes)

-- ---- buttons, and lists

same_radios : (f : Field) (typed other : List Typed) → AreSentAlike f.name.now typed other
    → (buttons : List Typed) → radios_pieces f typed buttons ≡ radios_pieces f other buttons
same_radios f typed other alike [] = refl
same_radios f typed other alike (one ∷ buttons) =
    ap₂ (λ (pressed : Bool) (rest : List Written). radio_pieces f one pressed ++ rest)
    (alike one.0.now) (same_radios f typed other alike buttons)

same_radio_group : (f : Field) (faulty : Bool) (typed other : List Typed) → AreSentAlike f.name.now typed other
    → (buttons : List Typed) → radio_group_pieces f typed faulty buttons ≡ radio_group_pieces f other faulty buttons
same_radio_group f faulty typed other alike buttons = rw (same_radios f typed other alike buttons) refl

same_options : (f : Field) (typed other : List Typed) → AreSentAlike f.name.now typed other
    → (options : List Typed) → options_pieces f typed options ≡ options_pieces f other options
same_options f typed other alike [] = refl
same_options f typed other alike (one ∷ options) =
    ap₂ (λ (selected : Bool) (rest : List Written). option_pieces one selected ++ rest)
    (alike one.0.now) (same_options f typed other alike options)

same_select : (f : Field) (faulty : Bool) (typed other : List Typed) → AreSentAlike f.name.now typed other
    → (options : List Typed) → select_pieces f typed faulty options ≡ select_pieces f other faulty options
same_select f faulty typed other alike options = rw (same_options f typed other alike options) refl

-- ---- what was typed is text

-- the same before and behind what is the same but for its texts
blank_within : (before a b behind : List Written) → blank a ≡ blank b → blank (before ++ (a ++ behind)) ≡ blank (before ++ (b ++ behind))
blank_within before a b behind same =
    map-append blank_piece before (a ++ behind)
    ∙ ap (λ (rest : List Written). blank before ++ rest)
    (map-append blank_piece a behind ∙ ap (λ (middle : List Written). middle ++ blank behind) same ∙ sym (map-append blank_piece b behind))
    ∙ sym (map-append blank_piece before (b ++ behind))

-- what was typed into a text of several lines stands before its end
abbrev area_end : List ℕ → List Written
area_end typed = markup plain.AREA_TEXT.now ∷ text typed ∷ markup plain.AREA_END.now ∷ []

blank_behind : (before a b : List Written) → blank a ≡ blank b → blank (before ++ a) ≡ blank (before ++ b)
blank_behind before a b same =
    map-append blank_piece before a
    ∙ ap (λ (rest : List Written). blank before ++ rest) same
    ∙ sym (map-append blank_piece before b)

blank_area : (f : Field) (faulty : Bool) (one two : List ℕ) → blank (area_pieces f one faulty) ≡ blank (area_pieces f two faulty)
blank_area f faulty one two =
    let rest : List Written = markup plain.AREA_TYPE.now ∷ rest_pieces f faulty in
    blank_behind (begin_pieces plain.AREA.now f) (rest ++ area_end one) (rest ++ area_end two)
    (blank_behind rest (area_end one) (area_end two) refl)

blank_control : (c : Control) (f : Field) (faulty : Bool) (typed other : List Typed) → IsCheckedAlike c f.name.now typed other
    → blank (filled_pieces c f typed faulty) ≡ blank (filled_pieces c f other faulty)
blank_control (Line kind) f faulty typed other alike =
    blank_within (begin_pieces plain.INPUT.now f) (value_pieces kind.now (typed_text f.name.now typed)) (value_pieces kind.now (typed_text f.name.now other))
    (rest_pieces f faulty) refl
blank_control Area f faulty typed other alike = blank_area f faulty (typed_text f.name.now typed) (typed_text f.name.now other)
blank_control Password f faulty typed other alike = refl
blank_control (Boxes boxes) f faulty typed other alike = ap blank (same_group f faulty typed other alike boxes.now)
blank_control (Radios buttons) f faulty typed other alike = ap blank (same_radio_group f faulty typed other alike buttons.now)
blank_control (Select options) f faulty typed other alike = ap blank (same_select f faulty typed other alike options.now)

blank_field : (f : Field) (entries : List Entry) (typed other : List Typed) → IsCheckedAlike f.control f.name.now typed other
    → blank (field_pieces f typed entries) ≡ blank (field_pieces f other entries)
blank_field f entries typed other alike =
    blank_within (markup plain.FIELD.now ∷ []) (control_pieces f typed (is_faulty f entries)) (control_pieces f other (is_faulty f entries))
    (list_pieces f entries (is_faulty f entries) ++ markup plain.FIELD_END.now ∷ [])
    (blank_control f.control f (is_faulty f entries) typed other alike)

blank_fields : (fs : List Field) (entries : List Entry) (typed other : List Typed)
    → All (λ (f : Field). IsCheckedAlike f.control f.name.now typed other) fs
    → blank (fields_pieces typed entries fs) ≡ blank (fields_pieces other entries fs)
blank_fields [] entries typed other alike = refl
blank_fields (f ∷ fs) entries typed other alike =
    map-append blank_piece (field_pieces f typed entries) (fields_pieces typed entries fs)
    ∙ ap₂ (λ (one rest : List Written). one ++ rest)
    (blank_field f entries typed other (All-head (λ (f : Field). IsCheckedAlike f.control f.name.now typed other) f fs alike))
    (blank_fields fs entries typed other (All-tail (λ (f : Field). IsCheckedAlike f.control f.name.now typed other) f fs alike))
    ∙ sym (map-append blank_piece (field_pieces f other entries) (fields_pieces other entries fs))

pub typed_is_text : TypedIsText
typed_is_text form typed other entries alike =
    let head : List Written = head_pieces form (title_of form entries) in
    let summary : List Written = summary_pieces form entries in
    let one : List Written = fields_pieces typed entries form.fields.now in
    let two : List Written = fields_pieces other entries form.fields.now in
    let same : blank one ≡ blank two = blank_fields form.fields.now entries typed other alike in
    map-append blank_piece head (summary ++ (form_begin form ++ (one ++ end_pieces form)))
    ∙ ap (λ (rest : List Written). blank head ++ rest)
    (map-append blank_piece summary (form_begin form ++ (one ++ end_pieces form))
    ∙ ap (λ (rest : List Written). blank summary ++ rest) (blank_within (form_begin form) one two (end_pieces form) same)
    ∙ sym (map-append blank_piece summary (form_begin form ++ (two ++ end_pieces form))))
    ∙ sym (map-append blank_piece head (summary ++ (form_begin form ++ (two ++ end_pieces form))))

-- ---- passwords are kept off

same_control : (c : Control) (f : Field) (faulty : Bool) (typed other : List Typed) → IsShownAlike c f.name.now typed other
    → filled_pieces c f typed faulty ≡ filled_pieces c f other faulty
same_control (Line kind) f faulty typed other alike = ap (λ (shown : List ℕ). line_pieces f kind.now shown faulty) alike
same_control Area f faulty typed other alike = ap (λ (shown : List ℕ). area_pieces f shown faulty) alike
same_control Password f faulty typed other alike = refl
same_control (Boxes boxes) f faulty typed other alike = same_group f faulty typed other alike boxes.now
same_control (Radios buttons) f faulty typed other alike = same_radio_group f faulty typed other alike buttons.now
same_control (Select options) f faulty typed other alike = same_select f faulty typed other alike options.now

same_fields : (fs : List Field) (entries : List Entry) (typed other : List Typed)
    → All (λ (f : Field). IsShownAlike f.control f.name.now typed other) fs → fields_pieces typed entries fs ≡ fields_pieces other entries fs
same_fields [] entries typed other alike = refl
same_fields (f ∷ fs) entries typed other alike =
    ap₂ (λ (control rest : List Written). with_messages f entries control ++ rest)
    (same_control f.control f (is_faulty f entries) typed other (All-head (λ (f : Field). IsShownAlike f.control f.name.now typed other) f fs alike))
    (same_fields fs entries typed other (All-tail (λ (f : Field). IsShownAlike f.control f.name.now typed other) f fs alike))

pub passwords_are_kept_off : PasswordsAreKeptOff
passwords_are_kept_off form typed other entries alike =
    ap (λ (fields : List Written). around_fields form entries fields) (same_fields form.fields.now entries typed other alike)
