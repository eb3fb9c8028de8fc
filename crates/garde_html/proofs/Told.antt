-- Each fault stands on a page.
use Rattle.std.proofs.Common.{◌≡◌, ℕ, Bool, true, false, cond, List, [], ◌∷◌, ◌++◌, Option, None, Some, All, refl, sym, ap, ◌∙◌, arith}
use Rattle.std.specs.Prelude.{filter, map}
use Rattle.std.specs.List.{Contains}
use Rattle.std.proofs.lemmas.Bool.{true≢false}
use Rattle.std.proofs.lemmas.List.{append_assoc}
use Rattle.std.proofs.lemmas.List.Elements.{All-cons, All-contains, All-nil, All-weaker, Contains-append_left, Contains-append_right, Contains-get_or}
use Rattle.garde_report.specs.Report.{Entry, begins_with, messages_under}
use Rattle.garde_html.specs.declared.form.Field.{Field}
use Rattle.garde_html.specs.declared.controls.TheConstants as plain
use Rattle.garde_html.specs.declared.summary.TheConstants as summary
use Rattle.garde_html.specs.Controls.{control_pieces, is_faulty, is_some_text, list_pieces, messages_pieces}
use Rattle.garde_html.specs.Form.{field_at}
use Rattle.garde_html.specs.Page.{Written, markup, text}
use Rattle.garde_html.specs.Summary.{entries_pieces, entry_pieces, first_text, has_part, label_pieces, named_pieces}
use Rattle.garde_html.specs.Laws.{FaultsStandBesideTheirFields, FaultsStandInTheSummary}

-- ---- in the summary

-- the entry of a fault has its message
of_label : (named : Bool) (label message : List ℕ)
    → Contains (label_pieces named label ++ text message ∷ markup summary.LINK_END.now ∷ []) (text message)
of_label true label message = Contains-get_or (text message ∷ markup summary.LINK_END.now ∷ []) 0 (text message) (grind (arith))
of_label false label message =
    Contains-get_or (text label ∷ markup summary.SAYS.now ∷ text message ∷ markup summary.LINK_END.now ∷ []) 2 (text message) (grind (arith))

of_name : (field : Option Field) (name message : List ℕ) → Contains (named_pieces field name message) (text message)
of_name (Some field) name message =
    let named : Bool = has_part field.label.now message in
    Contains-append_right (markup summary.LINK.now ∷ text field.name.now ∷ markup summary.LINK_TEXT.now ∷ [])
    (label_pieces named field.label.now ++ text message ∷ markup summary.LINK_END.now ∷ []) (text message)
    (of_label named field.label.now message)
of_name None name message = Contains-get_or (named_pieces None name message) 3 (text message) (grind (arith))

of_entry : (fields : List Field) (name : Option (List ℕ)) (message : List ℕ) → Contains (entry_pieces fields name message) (text message)
of_entry fields (Some name) message = of_name (field_at fields name) name message
of_entry fields None message = Contains-get_or (entry_pieces fields None message) 1 (text message) (grind (arith))

once : (fields : List Field) (before : List Entry) (e : Entry) (after : List Entry) → entries_pieces fields (before ++ e ∷ after)
    ≡ entries_pieces fields before ++ (entry_pieces fields (first_text e.0) e.1 ++ entries_pieces fields after)
once fields [] e after = refl
once fields (b ∷ before) e after =
    let own : List Written = entry_pieces fields (first_text b.0) b.1 in
    ap (λ (rest : List Written). own ++ rest) (once fields before e after)
    ∙ sym (append_assoc own (entries_pieces fields before) (entry_pieces fields (first_text e.0) e.1 ++ entries_pieces fields after))

pub faults_stand_in_the_summary : FaultsStandInTheSummary
faults_stand_in_the_summary fields before e after = (once fields before e after, of_entry fields (first_text e.0) e.1)

-- ---- beside a field

-- the message of a fault under the name is one of these
abbrev IsListed : List ℕ → List (List ℕ) → Entry → Type 0
IsListed name messages e = begins_with (name ∷ []) e.0 ≡ true → Contains (messages_pieces messages) (text e.1)

here : (message : List ℕ) (messages : List (List ℕ)) → Contains (messages_pieces (message ∷ messages)) (text message)
here message messages = Contains-get_or (messages_pieces (message ∷ messages)) 1 (text message) (grind (arith))

by_place : (is : Bool) (name : List ℕ) (e : Entry) (es : List Entry) → begins_with (name ∷ []) e.0 ≡ is
    → All (IsListed name (messages_under (name ∷ []) es)) es
    → All (IsListed name (map (λ (e : Entry). e.1) (cond is (e ∷ filter (λ (e : Entry). begins_with (name ∷ []) e.0) es)
    (filter (λ (e : Entry). begins_with (name ∷ []) e.0) es)))) (e ∷ es)
by_place true name e es is others =
    let messages : List (List ℕ) = messages_under (name ∷ []) es in
    All-cons (IsListed name (e.1 ∷ messages)) e es (λ under. here e.1 messages)
    (All-weaker (IsListed name messages) (IsListed name (e.1 ∷ messages))
    (λ d listed under. Contains-append_right (markup plain.MESSAGE.now ∷ text e.1 ∷ markup plain.MESSAGE_END.now ∷ []) (messages_pieces messages) (text d.1) (listed under))
    es others)
by_place false name e es is others =
    All-cons (IsListed name (messages_under (name ∷ []) es)) e es (λ under. absurd (true≢false (sym under ∙ is))) others

all_listed : (name : List ℕ) (es : List Entry) → All (IsListed name (messages_under (name ∷ []) es)) es
all_listed name [] = All-nil (IsListed name [])
all_listed name (e ∷ es) = by_place (begins_with (name ∷ []) e.0) name e es refl (all_listed name es)

-- where a message is listed there is one
is_one : (messages : List (List ℕ)) (p : Written) → Contains (messages_pieces messages) p → is_some_text messages ≡ true
is_one [] p there = absurd (omega (arith, there.1))
is_one (message ∷ messages) p there = refl

-- so it stands in the list beside the field
in_list : (faulty : Bool) (field : Field) (entries : List Entry) (p : Written) → is_faulty field entries ≡ faulty
    → Contains (messages_pieces (messages_under (field.name.now ∷ []) entries)) p → Contains (list_pieces field entries faulty) p
in_list true field entries p is there =
    let messages : List (List ℕ) = messages_under (field.name.now ∷ []) entries in
    Contains-append_right (markup plain.LIST.now ∷ text field.name.now ∷ markup plain.LIST_ID.now ∷ [])
    (messages_pieces messages ++ markup plain.LIST_END.now ∷ []) p
    (Contains-append_left (messages_pieces messages) (markup plain.LIST_END.now ∷ []) p there)
in_list false field entries p is there =
    absurd (true≢false (sym (is_one (messages_under (field.name.now ∷ []) entries) p there) ∙ is))

pub faults_stand_beside_their_fields : FaultsStandBesideTheirFields
faults_stand_beside_their_fields field typed entries e is_fault under =
    let listed : IsListed field.name.now (messages_under (field.name.now ∷ []) entries) e =
    All-contains (IsListed field.name.now (messages_under (field.name.now ∷ []) entries)) entries e (all_listed field.name.now entries) is_fault in
    let faulty : Bool = is_faulty field entries in
    let control : List Written = control_pieces field typed faulty in
    let list : List Written = list_pieces field entries faulty in
    Contains-append_right (markup plain.FIELD.now ∷ []) (control ++ (list ++ markup plain.FIELD_END.now ∷ [])) (text e.1)
    (Contains-append_right control (list ++ markup plain.FIELD_END.now ∷ []) (text e.1)
    (Contains-append_left list (markup plain.FIELD_END.now ∷ []) (text e.1) (in_list faulty field entries (text e.1) refl (listed under))))
