-- No page holds a text back.
use Rattle.std.proofs.Common.{◌≡◌, ℕ, Bool, true, false, ◌&&◌, ◌==◌, cond, length, List, [], ◌∷◌, ◌++◌, Option, None, Some, refl, ap, ap₂, ◌∙◌, arith}
use Rattle.std.specs.Borrow.{Bor}
use Rattle.std.specs.List.{Contains, list_all}
use Rattle.std.proofs.lemmas.List.Folds.{list_all-append}
use Rattle.std.proofs.lemmas.List.Elements.{Contains-append_left, Contains-append_right, Contains-get_or}
use Rattle.garde_report.specs.Report.{Entry, messages_under}
use Rattle.garde_html.specs.declared.form.Control.{Control}
use Rattle.garde_html.specs.declared.form.Control.TheVariants.{Line, Area, Password, Boxes, Radios, Select}
use Rattle.garde_html.specs.declared.form.Field.{Field}
use Rattle.garde_html.specs.declared.form.Form.{Form}
use Rattle.garde_html.specs.declared.controls.TheConstants as plain
use Rattle.garde_html.specs.declared.document.TheConstants as document
use Rattle.garde_html.specs.declared.marks.TheConstants as marks
use Rattle.garde_html.specs.declared.summary.TheConstants as summary
use Rattle.garde_html.specs.Controls.{area_pieces, begin_pieces, box_pieces, boxes_pieces, control_pieces, fields_pieces, filled_pieces, is_faulty, label_pieces, list_pieces, messages_pieces, names_pieces, option_pieces, options_pieces, radio_pieces, radios_pieces, rest_pieces, value_pieces}
use Rattle.garde_html.specs.Document.{end_pieces, form_begin, head_pieces, title_of}
use Rattle.garde_html.specs.Form.{Typed, field_at, is_checked, typed_text}
use Rattle.garde_html.specs.Marks.{attribute_pieces, control_end, described_pieces, hint_pieces, mark, marks_pieces}
use Rattle.garde_html.specs.Page.{Written, markup, text}
use Rattle.garde_html.specs.Summary as told
use Rattle.garde_html.specs.Laws.{NothingIsHeldBack, holds_nothing}

-- no piece of it holds anything back
abbrev IsFree : List Written → Type 0
IsFree pieces = list_all holds_nothing pieces ≡ true

join : (xs ys : List Written) → IsFree xs → IsFree ys → IsFree (xs ++ ys)
join xs ys one other = list_all-append holds_nothing xs ys ∙ ap₂ (λ (a b : Bool). a && b) one other

-- ---- what fields say

hint : (name : List ℕ) (said : Option (Bor (List ℕ))) → IsFree (hint_pieces name said)
hint name None = refl
hint name (Some said) = refl

marked : (auto keys : Option (Bor (List ℕ))) (required : Bool)
    → IsFree (attribute_pieces marks.AUTOCOMPLETE.now auto ++ (attribute_pieces marks.INPUT_MODE.now keys ++ markup (mark marks.REQUIRED.now required) ∷ []))
marked None None false = refl
marked None None true = refl
marked None (Some keys) false = refl
marked None (Some keys) true = refl
marked (Some auto) None false = refl
marked (Some auto) None true = refl
marked (Some auto) (Some keys) false = refl
marked (Some auto) (Some keys) true = refl

ended : (name : List ℕ) (said : Option (Bor (List ℕ))) (faulty : Bool)
    → IsFree (markup (mark marks.INVALID.now faulty) ∷ (described_pieces name said faulty ++ markup marks.CONTROL_END.now ∷ []))
ended name None false = refl
ended name None true = refl
ended name (Some said) false = refl
ended name (Some said) true = refl

rest : (f : Field) (faulty : Bool) → IsFree (rest_pieces f faulty)
rest f faulty =
    join (marks_pieces f) (control_end f faulty) (marked f.autocomplete f.inputmode f.required) (ended f.name.now f.hint faulty)

begun : (tag : List ℕ) (f : Field) → holds_nothing (markup tag) ≡ true → IsFree (begin_pieces tag f)
begun tag f is =
    join (label_pieces f) (hint_pieces f.name.now f.hint ++ names_pieces tag f.name.now) refl
    (join (hint_pieces f.name.now f.hint) (names_pieces tag f.name.now) (hint f.name.now f.hint) (ap (λ (b : Bool). b && true) is))

-- ---- controls

line : (f : Field) (kind typed : List ℕ) (faulty : Bool)
    → IsFree (begin_pieces plain.INPUT.now f ++ (value_pieces kind typed ++ rest_pieces f faulty))
line f kind typed faulty =
    join (begin_pieces plain.INPUT.now f) (value_pieces kind typed ++ rest_pieces f faulty) (begun plain.INPUT.now f refl)
    (join (value_pieces kind typed) (rest_pieces f faulty) refl (rest f faulty))

area : (f : Field) (typed : List ℕ) (faulty : Bool) → IsFree (area_pieces f typed faulty)
area f typed faulty =
    let end : List Written = markup plain.AREA_TEXT.now ∷ text typed ∷ markup plain.AREA_END.now ∷ [] in
    join (begin_pieces plain.AREA.now f) (markup plain.AREA_TYPE.now ∷ (rest_pieces f faulty ++ end)) (begun plain.AREA.now f refl)
    (join (rest_pieces f faulty) end (rest f faulty) refl)

option : (one : Typed) (selected : Bool) → IsFree (option_pieces one selected)
option one false = refl
option one true = refl

options : (f : Field) (typed all : List Typed) → IsFree (options_pieces f typed all)
options f typed [] = refl
options f typed (one ∷ all) =
    let is : Bool = is_checked f.name.now one.0.now typed in
    join (option_pieces one is) (options_pieces f typed all) (option one is) (options f typed all)

radio : (f : Field) (one : Typed) (pressed : Bool) → IsFree (radio_pieces f one pressed)
radio f one false = refl
radio f one true = refl

radios : (f : Field) (typed all : List Typed) → IsFree (radios_pieces f typed all)
radios f typed [] = refl
radios f typed (one ∷ all) =
    let is : Bool = is_checked f.name.now one.0.now typed in
    join (radio_pieces f one is) (radios_pieces f typed all) (radio f one is) (radios f typed all)

box_begin : (name value : List ℕ) (checked required : Bool)
    → IsFree (markup plain.BOX.now ∷ text name ∷ markup plain.VALUE.now ∷ text value ∷ markup (mark plain.CHECKED.now checked) ∷ markup (mark marks.REQUIRED.now required) ∷ [])
box_begin name value false false = refl
box_begin name value false true = refl
box_begin name value true false = refl
box_begin name value true true = refl

box : (f : Field) (one : Typed) (checked faulty : Bool) → IsFree (box_pieces f one checked faulty)
box f one checked faulty =
    let end : List Written = markup plain.BOX_TEXT.now ∷ text one.1.now ∷ markup plain.BOX_END.now ∷ [] in
    join (markup plain.BOX.now ∷ text f.name.now ∷ markup plain.VALUE.now ∷ text one.0.now ∷ markup (mark plain.CHECKED.now checked) ∷ markup (mark marks.REQUIRED.now f.required) ∷ [])
    (control_end f faulty ++ end) (box_begin f.name.now one.0.now checked f.required)
    (join (control_end f faulty) end (ended f.name.now f.hint faulty) refl)

boxes : (f : Field) (typed : List Typed) (faulty : Bool) (all : List Typed) → IsFree (boxes_pieces f typed faulty all)
boxes f typed faulty [] = refl
boxes f typed faulty (one ∷ all) =
    let is : Bool = is_checked f.name.now one.0.now typed in
    join (box_pieces f one is faulty) (boxes_pieces f typed faulty all) (box f one is faulty) (boxes f typed faulty all)

-- the hint of a group, these pieces and its end
group : (f : Field) (pieces : List Written) → IsFree pieces → IsFree (hint_pieces f.name.now f.hint ++ (pieces ++ markup plain.GROUP_END.now ∷ []))
group f pieces free =
    join (hint_pieces f.name.now f.hint) (pieces ++ markup plain.GROUP_END.now ∷ []) (hint f.name.now f.hint)
    (join pieces (markup plain.GROUP_END.now ∷ []) free refl)

radio_begin : (name : List ℕ) (required : Bool)
    → IsFree (markup plain.GROUP.now ∷ text name ∷ markup plain.RADIO_GROUP.now ∷ markup (mark marks.REQUIRED.now required) ∷ [])
radio_begin name false = refl
radio_begin name true = refl

filled : (c : Control) (f : Field) (typed : List Typed) (faulty : Bool) → IsFree (filled_pieces c f typed faulty)
filled (Line kind) f typed faulty = line f kind.now (typed_text f.name.now typed) faulty
filled Area f typed faulty = area f (typed_text f.name.now typed) faulty
filled Password f typed faulty = line f _ [] faulty
filled (Boxes all) f typed faulty = group f (boxes_pieces f typed faulty all.now) (boxes f typed faulty all.now)
filled (Radios all) f typed faulty =
    let under : List Written = hint_pieces f.name.now f.hint ++ (radios_pieces f typed all.now ++ markup plain.GROUP_END.now ∷ []) in
    let legend : List Written = markup plain.RADIO_LEGEND.now ∷ text f.label.now ∷ markup plain.LEGEND_END.now ∷ under in
    join (markup plain.GROUP.now ∷ text f.name.now ∷ markup plain.RADIO_GROUP.now ∷ markup (mark marks.REQUIRED.now f.required) ∷ [])
    (control_end f faulty ++ legend) (radio_begin f.name.now f.required)
    (join (control_end f faulty) legend (ended f.name.now f.hint faulty) (group f (radios_pieces f typed all.now) (radios f typed all.now)))
filled (Select all) f typed faulty =
    let end : List Written = options_pieces f typed all.now ++ markup plain.SELECT_END.now ∷ [] in
    join (begin_pieces plain.SELECT.now f) (rest_pieces f faulty ++ end) (begun plain.SELECT.now f refl)
    (join (rest_pieces f faulty) end (rest f faulty)
    (join (options_pieces f typed all.now) (markup plain.SELECT_END.now ∷ []) (options f typed all.now) refl))

-- ---- fields

messages : (all : List (List ℕ)) → IsFree (messages_pieces all)
messages [] = refl
messages (message ∷ all) = messages all

listed : (f : Field) (entries : List Entry) (faulty : Bool) → IsFree (list_pieces f entries faulty)
listed f entries false = refl
listed f entries true =
    let all : List (List ℕ) = messages_under (f.name.now ∷ []) entries in
    join (messages_pieces all) (markup plain.LIST_END.now ∷ []) (messages all) refl

fields : (typed : List Typed) (entries : List Entry) (fs : List Field) → IsFree (fields_pieces typed entries fs)
fields typed entries [] = refl
fields typed entries (f ∷ fs) =
    let faulty : Bool = is_faulty f entries in
    let control : List Written = control_pieces f typed faulty in
    let list : List Written = list_pieces f entries faulty in
    join (markup plain.FIELD.now ∷ (control ++ (list ++ markup plain.FIELD_END.now ∷ []))) (fields_pieces typed entries fs)
    (join control (list ++ markup plain.FIELD_END.now ∷ []) (filled f.control f typed faulty)
    (join list (markup plain.FIELD_END.now ∷ []) (listed f entries faulty) refl))
    (fields typed entries fs)

-- ---- the summary

labelled : (is : Bool) (label message : List ℕ) → IsFree (told.label_pieces is label ++ text message ∷ markup summary.LINK_END.now ∷ [])
labelled false label message = refl
labelled true label message = refl

named : (field : Option Field) (name message : List ℕ) → IsFree (told.named_pieces field name message)
named None name message = refl
named (Some f) name message = labelled (told.has_part f.label.now message) f.label.now message

entry : (all : List Field) (name : Option (List ℕ)) (message : List ℕ) → IsFree (told.entry_pieces all name message)
entry all None message = refl
entry all (Some name) message = named (field_at all name) name message

entries_free : (all : List Field) (es : List Entry) → IsFree (told.entries_pieces all es)
entries_free all [] = refl
entries_free all (e ∷ es) =
    join (told.entry_pieces all (told.first_text e.0) e.1) (told.entries_pieces all es) (entry all (told.first_text e.0) e.1) (entries_free all es)

summary_free : (form : Form) (es : List Entry) (none : Bool) → IsFree (cond none []
    (markup summary.SUMMARY.now ∷ text form.summary.now ∷ markup summary.SUMMARY_LIST.now
    ∷ (told.entries_pieces form.fields.now es ++ markup summary.SUMMARY_END.now ∷ [])))
summary_free form es true = refl
summary_free form es false =
    join (told.entries_pieces form.fields.now es) (markup summary.SUMMARY_END.now ∷ []) (entries_free form.fields.now es) refl

-- ---- the page

pub nothing_is_held_back : NothingIsHeldBack
nothing_is_held_back form typed entries =
    let head : List Written = head_pieces form (title_of form entries) in
    let summed : List Written = told.summary_pieces form entries in
    let within : List Written = fields_pieces typed entries form.fields.now ++ end_pieces form in
    let p : Written = markup document.FORM_END.now in (
      refl,
      Contains-append_right head (summed ++ (form_begin form ++ within)) p
          (Contains-append_right summed (form_begin form ++ within) p
          (Contains-append_left (form_begin form) within p (Contains-get_or (form_begin form) 2 p (grind (arith))))),
      join head (summed ++ (form_begin form ++ within)) refl
          (join summed (form_begin form ++ within) (summary_free form entries (length entries == 0))
          (join (form_begin form) within refl
          (join (fields_pieces typed entries form.fields.now) (end_pieces form) (fields typed entries form.fields.now) refl))),
    )
