-- The lines of a table that is written in a file: under the code of each message its text.
use Rattle.std.specs.Prelude.{◌≡◌, ◌++◌, ℕ, List, [], ◌∷◌, All, Bool, true, false, Option, Some, None, String, bytes_eq, cond, option_map, map, string_bytes}
use Rattle.std.specs.Borrow.{Bor}
use Rattle.std.specs.List.{list_any}
use Rattle.json.specs.Json.{Json}
use Rattle.json.specs.Find.{as_str}
use Rattle.garde_report.specs.Part.{key_part}
use Rattle.garde_rules.specs.{Fault, rule}
use Rattle.garde.specs.Visits.{Visits, none, found, under, ◌and◌}
use Rattle.garde_tape.specs.Look.{find_answer, kind_of}
use Rattle.garde_tape.specs.declared.found.Found.{Found}
use Rattle.garde_tape.specs.declared.found.Found.TheVariants.{Missing, Once, Repeated}
use Rattle.garde_schema.specs.declared.fault.FormFault.TheVariants.{Wrong}
use Rattle.garde_schema.specs.declared.fault.Wanted.TheVariants.{Text}
use Rattle.garde_schema.specs.Forms.{FormTexts, formed}
use Rattle.garde_schema.specs.Members.{member_visits, optional_visits}
use Rattle.garde_catalog.specs.Catalog.{AreGood, Entry}
use Rattle.garde_catalog.specs.Messages.{LIBRARY, Message}
use Rattle.garde_catalog.specs.Template.{fault_datum, template_fault}

-- a code and its text
abbrev pub Line : Type 0
Line = List ℕ × List ℕ

-- the line of a table that is lent, and of one that owns its texts
abbrev pub line_of : Entry → Line
line_of entry = (entry.0.now, entry.1.now)

abbrev pub owned_line : {Z : Type 0} → Bor (List ℕ) × String Z → Line
owned_line line = (line.0.now, string_bytes line.1)

-- Tables of these lines are good, whatever the other table has. Where codes may be missing, the other table is good by itself.
abbrev pub AreGoodLines : Bool → List Line → Type 0
AreGoodLines may_lack lines =
    (entries others : List Entry) → map line_of entries ≡ lines → (may_lack ≡ true → AreGood [] others) → AreGood entries others

-- what is wrong with the text of a message, if anything is: a handler gives it its text
abbrev pub text_found : Message → List ℕ → Option Fault
text_found message text = option_map (λ fault. rule (fault_datum fault)) (template_fault message.1 message.2 text)

-- what is asked of the value under the code of a message: that it is a text, and then that the text is a template of the message's parameters
abbrev pub text_visits : FormTexts → Message → Json → Visits
text_visits texts message j = formed (texts (Wrong Text (kind_of j))) (λ text. found (text_found message text)) (as_str j)

-- what is asked of an object under the code of a message, which may be missing, or has to be there
abbrev pub line_visits : Bool → FormTexts → Json → Message → Visits
line_visits true texts j message =
    optional_visits (key_part message.0) texts (λ v. text_visits texts message v) (find_answer message.0 j)
line_visits false texts j message =
    under (key_part message.0) (member_visits texts (λ v. text_visits texts message v) (find_answer message.0 j))

-- each of these messages in turn
unfoldable pub in_turn : (Message → Visits) → List Message → Visits
in_turn each [] = none
in_turn each (message ∷ messages) = each message and in_turn each messages

abbrev pub asked : Bool → FormTexts → Json → List Message → Visits
asked may_lack texts j messages = in_turn (λ message. line_visits may_lack texts j message) messages

-- the text that was found, or that there is none where it may be missing; nothing where it has another form
abbrev pub found_text : Bool → Found → Option (Option (List ℕ))
found_text may_lack Missing = cond may_lack (Some None) None
found_text may_lack (Once v) = option_map (λ text. Some text) (as_str v)
found_text may_lack Repeated = None

-- the text of a code
abbrev pub text_of : Bool → Json → List ℕ → Option (Option (List ℕ))
text_of may_lack j code = found_text may_lack (find_answer code j)

-- lines and the text of a code before them
abbrev pub with_first_line : List ℕ → Option (Option (List ℕ)) → Option (List Line) → Option (List Line)
with_first_line code (Some (Some text)) (Some lines) = Some ((code, text) ∷ lines)
with_first_line code (Some None) (Some lines) = Some lines
with_first_line code (Some text) None = None
with_first_line code None lines = None

-- the lines of these messages, where each has its form: the texts are found by their codes
abbrev pub lines_of : (List ℕ → Option (Option (List ℕ))) → List Message → Option (List Line)
lines_of text_at [] = Some []
lines_of text_at (message ∷ messages) = with_first_line message.0 (text_at message.0) (lines_of text_at messages)

abbrev pub read : Bool → Json → List Message → Option (List Line)
read may_lack j messages = lines_of (λ code. text_of may_lack j code) messages

-- lines and the text of a code behind them
abbrev pub with_last_line : Option (List Line) → List ℕ → Option (Option (List ℕ)) → Option (List Line)
with_last_line (Some lines) code (Some (Some text)) = Some (lines ++ (code, text) ∷ [])
with_last_line (Some lines) code (Some None) = Some lines
with_last_line (Some lines) code None = None
with_last_line None code text = None

-- these lines and then those, where both are there
abbrev pub joined : Option (List Line) → Option (List Line) → Option (List Line)
joined (Some xs) (Some ys) = Some (xs ++ ys)
joined (Some xs) None = None
joined None ys = None

-- whether this is the code of one of these messages
abbrev pub is_name : List Message → List ℕ → Bool
is_name messages name = list_any (λ message. bytes_eq name message.0) messages

-- none of these messages has the code of one of the library
abbrev pub AreOwn : List Message → Type 0
AreOwn own = All (λ message. is_name LIBRARY message.0 ≡ false) own
