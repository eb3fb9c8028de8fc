-- The fields of a form on a page. The markup is that of the constants of `src/controls.rt`.
use Rattle.std.specs.Prelude.{ℕ, Bool, true, false, List, [], ◌∷◌, ◌++◌, codes}
use Rattle.garde_report.specs.Report.{Entry, messages_under}
use Rattle.garde_html.specs.declared.form.Field.{Field}
use Rattle.garde_html.specs.declared.form.Control.{Control}
use Rattle.garde_html.specs.declared.form.Control.TheVariants.{Line, Area, Password, Boxes, Radios, Select}
use Rattle.garde_html.specs.declared.controls.TheConstants as plain
use Rattle.garde_html.specs.declared.marks.TheConstants as marks
use Rattle.garde_html.specs.Form.{Typed, is_checked, typed_text}
use Rattle.garde_html.specs.Marks.{control_end, hint_pieces, mark, marks_pieces}
use Rattle.garde_html.specs.Page.{Written, markup, text}

abbrev pub is_some_text : List (List ℕ) → Bool
is_some_text [] = false
is_some_text (one ∷ others) = true

-- there is a fault at the field or under it
abbrev pub is_faulty : Field → List Entry → Bool
is_faulty field entries = is_some_text (messages_under (field.name.now ∷ []) entries)

-- the label of a line
abbrev pub label_pieces : Field → List Written
label_pieces field =
    markup plain.LABEL.now ∷ text field.name.now ∷ markup plain.LABEL_TEXT.now ∷ text field.label.now ∷ markup plain.LABEL_END.now ∷ []

-- the name of a control with this tag, on the page and in what is sent
abbrev pub names_pieces : List ℕ → List ℕ → List Written
names_pieces tag name = markup tag ∷ text name ∷ markup plain.NAME.now ∷ text name ∷ []

-- the beginning of a control with this tag, up to its names
abbrev pub begin_pieces : List ℕ → Field → List Written
begin_pieces tag field = label_pieces field ++ (hint_pieces field.name.now field.hint ++ names_pieces tag field.name.now)

-- the type of a line and its text
abbrev pub value_pieces : List ℕ → List ℕ → List Written
value_pieces kind typed = markup plain.TYPE.now ∷ text kind ∷ markup plain.VALUE.now ∷ text typed ∷ []

-- what a control says behind its names and its text
abbrev pub rest_pieces : Field → Bool → List Written
rest_pieces field faulty = marks_pieces field ++ control_end field faulty

-- a line with its label
abbrev pub line_pieces : Field → List ℕ → List ℕ → Bool → List Written
line_pieces field kind typed faulty = begin_pieces plain.INPUT.now field ++ (value_pieces kind typed ++ rest_pieces field faulty)

-- a text of several lines
abbrev pub area_pieces : Field → List ℕ → Bool → List Written
area_pieces field typed faulty =
    begin_pieces plain.AREA.now field
    ++ (markup plain.AREA_TYPE.now ∷ (rest_pieces field faulty ++ markup plain.AREA_TEXT.now ∷ text typed ∷ markup plain.AREA_END.now ∷ []))

-- a line of a list
abbrev pub option_pieces : Typed → Bool → List Written
option_pieces one selected =
    markup plain.OPTION.now ∷ text one.0.now ∷ markup (mark plain.SELECTED.now selected) ∷ markup plain.OPTION_TEXT.now
    ∷ text one.1.now ∷ markup plain.OPTION_END.now ∷ []

-- lines of a list, each of which is selected if its text was sent
abbrev pub options_pieces : Field → List Typed → List Typed → List Written
options_pieces field typed [] = []
options_pieces field typed (one ∷ options) =
    option_pieces one (is_checked field.name.now one.0.now typed) ++ options_pieces field typed options

-- a list with its label
abbrev pub select_pieces : Field → List Typed → Bool → List Typed → List Written
select_pieces field typed faulty options =
    begin_pieces plain.SELECT.now field
    ++ (rest_pieces field faulty ++ (options_pieces field typed options ++ markup plain.SELECT_END.now ∷ []))

-- a button with its label
abbrev pub radio_pieces : Field → Typed → Bool → List Written
radio_pieces field one pressed =
    markup plain.RADIO.now ∷ text field.name.now ∷ markup plain.VALUE.now ∷ text one.0.now
    ∷ markup (mark plain.CHECKED.now pressed) ∷ markup plain.RADIO_TEXT.now ∷ text one.1.now ∷ markup plain.BOX_END.now ∷ []

-- buttons, each of which is pressed if its text was sent
abbrev pub radios_pieces : Field → List Typed → List Typed → List Written
radios_pieces field typed [] = []
radios_pieces field typed (one ∷ buttons) =
    radio_pieces field one (is_checked field.name.now one.0.now typed) ++ radios_pieces field typed buttons

-- buttons under the label of their field, which says what there is to say of them all
abbrev pub radio_group_pieces : Field → List Typed → Bool → List Typed → List Written
radio_group_pieces field typed faulty buttons =
    markup plain.GROUP.now ∷ text field.name.now ∷ markup plain.RADIO_GROUP.now ∷ markup (mark marks.REQUIRED.now field.required)
    ∷ (control_end field faulty
    ++ (markup plain.RADIO_LEGEND.now ∷ text field.label.now ∷ markup plain.LEGEND_END.now
    ∷ (hint_pieces field.name.now field.hint ++ (radios_pieces field typed buttons ++ markup plain.GROUP_END.now ∷ []))))

-- a box with its label
abbrev pub box_pieces : Field → Typed → Bool → Bool → List Written
box_pieces field one checked faulty =
    markup plain.BOX.now ∷ text field.name.now ∷ markup plain.VALUE.now ∷ text one.0.now
    ∷ markup (mark plain.CHECKED.now checked) ∷ markup (mark marks.REQUIRED.now field.required)
    ∷ (control_end field faulty ++ markup plain.BOX_TEXT.now ∷ text one.1.now ∷ markup plain.BOX_END.now ∷ [])

-- boxes, each of which is checked if its text was sent
abbrev pub boxes_pieces : Field → List Typed → Bool → List Typed → List Written
boxes_pieces field typed faulty [] = []
boxes_pieces field typed faulty (one ∷ boxes) =
    box_pieces field one (is_checked field.name.now one.0.now typed) faulty ++ boxes_pieces field typed faulty boxes

-- the label of boxes with its hint, and these pieces under it
abbrev pub under_legend : Field → List Written → List Written
under_legend field middle =
    markup plain.GROUP.now ∷ text field.name.now ∷ markup plain.LEGEND.now ∷ text field.label.now ∷ markup plain.LEGEND_END.now
    ∷ (hint_pieces field.name.now field.hint ++ (middle ++ markup plain.GROUP_END.now ∷ []))

-- boxes under the label of their field
abbrev pub group_pieces : Field → List Typed → Bool → List Typed → List Written
group_pieces field typed faulty boxes = under_legend field (boxes_pieces field typed faulty boxes)

-- what a visitor fills in, as it was filled in; of a password nothing that was typed
abbrev pub filled_pieces : Control → Field → List Typed → Bool → List Written
filled_pieces (Line kind) field typed faulty = line_pieces field kind.now (typed_text field.name.now typed) faulty
filled_pieces Area field typed faulty = area_pieces field (typed_text field.name.now typed) faulty
filled_pieces Password field typed faulty = line_pieces field (codes "password") [] faulty
filled_pieces (Boxes boxes) field typed faulty = group_pieces field typed faulty boxes.now
filled_pieces (Radios buttons) field typed faulty = radio_group_pieces field typed faulty buttons.now
filled_pieces (Select options) field typed faulty = select_pieces field typed faulty options.now

abbrev pub control_pieces : Field → List Typed → Bool → List Written
control_pieces field typed faulty = filled_pieces field.control field typed faulty

-- messages in their order
abbrev pub messages_pieces : List (List ℕ) → List Written
messages_pieces [] = []
messages_pieces (message ∷ messages) = markup plain.MESSAGE.now ∷ text message ∷ markup plain.MESSAGE_END.now ∷ messages_pieces messages

-- the messages beside a field
abbrev pub list_pieces : Field → List Entry → Bool → List Written
list_pieces field entries false = []
list_pieces field entries true =
    markup plain.LIST.now ∷ text field.name.now ∷ markup plain.LIST_ID.now
    ∷ (messages_pieces (messages_under (field.name.now ∷ []) entries) ++ markup plain.LIST_END.now ∷ [])

-- a control, and the messages behind it
abbrev pub with_messages : Field → List Entry → List Written → List Written
with_messages field entries control =
    markup plain.FIELD.now
    ∷ (control ++ (list_pieces field entries (is_faulty field entries) ++ markup plain.FIELD_END.now ∷ []))

-- a field with its messages
abbrev pub field_pieces : Field → List Typed → List Entry → List Written
field_pieces field typed entries = with_messages field entries (control_pieces field typed (is_faulty field entries))

-- fields in their order
abbrev pub fields_pieces : List Typed → List Entry → List Field → List Written
fields_pieces typed entries [] = []
fields_pieces typed entries (f ∷ fs) = field_pieces f typed entries ++ fields_pieces typed entries fs
