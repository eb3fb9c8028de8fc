-- That the tables which are shipped are good: each has the messages in their order, and each text is a template.
use Rattle.std.proofs.Common.{◌≡◌, ◌∷◌, ◌++◌, length-append, ◌∙◌, ◌<◌, ℕ, zero, suc, List, [], All, Bool, true, false, ◌&&◌, Option, Some, None, bytes_eq, cond, length, get_or, map, refl, sym, ap, subst, is_none, arith}
use Rattle.std.specs.Borrow.{Bor}
use Rattle.std.specs.List.{list_all}
use Rattle.std.proofs.lemmas.Bool.{false≢true}
use Rattle.std.proofs.lemmas.List.{get_or-map, get_or_append_left, length-map}
use Rattle.std.proofs.lemmas.List.Elements.{All-get_or}
use Rattle.std.proofs.lemmas.Option.{get_or_from_slice_get, none-some, slice_get_within}
use Rattle.std.proofs.lemmas.Slice.Eq.{bytes_eq-Decides}
use Rattle.garde_catalog.specs.Catalog.{AreGood, Entry, texts_under}
use Rattle.garde_catalog.specs.Lines.{AreGoodLines, Line, is_name, line_of}
use Rattle.garde_catalog.specs.Lookup.{IsFound, IsThere}
use Rattle.garde_catalog.specs.Messages.{LIBRARY, Message}
use Rattle.garde_catalog.specs.Shipped.{AreGoodTables, FURTHER, SHIPPED, tagged}
use Rattle.garde_catalog.specs.Spoken.{AreOf}
use Rattle.garde_catalog.specs.Template.{IsTemplate, pieces_of, template_fault}
use Rattle.garde_catalog.specs.declared.template.TemplateFault.{TemplateFault}
use Rattle.garde_catalog.specs.declared.language.Language.{Language}
use Rattle.garde_catalog.proofs.GoodLines.{are_distinct, line_texts, not_so, or_left, or_right, turned, under_lines, unlike}
use Rattle.garde_catalog.proofs.Judged.{and_left, and_right, good, held}
use Rattle.garde_catalog.proofs.Made.{one_text}

-- the lines have the codes of these messages, in their order, and each text is a template
abbrev are_lines : List Line → List Message → Bool
are_lines [] [] = true
are_lines [] (message ∷ messages) = false
are_lines (line ∷ lines) [] = false
are_lines (line ∷ lines) (message ∷ messages) =
    bytes_eq line.0 message.0 && (is_none (template_fault message.1 message.2 line.1) && are_lines lines messages)

no_fault : (fault : Option TemplateFault) → is_none fault ≡ true → fault ≡ None
no_fault None e = refl
no_fault (Some fault) e = absurd (false≢true e)

-- what the test says of the first line
module _ (line : Line) (lines : List Line) (message : Message) (messages : List Message) (are : are_lines (line ∷ lines) (message ∷ messages) ≡ true) where
  first_code : line.0 ≡ message.0
  first_code = (bytes_eq-Decides line.0 message.0).0 (and_left _ _ are)

  first_text : IsTemplate line.1 message.1 message.2 (pieces_of line.1)
  first_text = good line.1 message.1 message.2 (no_fault (template_fault message.1 message.2 line.1) (and_left _ _ (and_right _ _ are)))

  others : are_lines lines messages ≡ true
  others = and_right _ _ (and_right _ _ are)

-- a line of another code adds no text
passed : (code : List ℕ) (line : Line) (lines : List Line) → bytes_eq line.0 code ≡ false → line_texts code (line ∷ lines) ≡ line_texts code lines
passed code line lines other = ap (λ b. cond b (line.1 ∷ line_texts code lines) (line_texts code lines)) other

-- under a code that no message has there is no text
no_text : (code : List ℕ) (lines : List Line) (messages : List Message) → are_lines lines messages ≡ true → is_name messages code ≡ false
    → line_texts code lines ≡ []
no_text code [] messages are none = refl
no_text code (line ∷ lines) [] are none = absurd (false≢true are)
no_text code (line ∷ lines) (message ∷ messages) are none =
    let other = turned code message.0 (or_left (bytes_eq code message.0) (is_name messages code) none) in
    passed code line lines (ap (λ c. bytes_eq c code) (first_code line lines message messages are) ∙ other)
    ∙ no_text code lines messages (others line lines message messages are) (or_right (bytes_eq code message.0) (is_name messages code) none)

-- under the code of a message there is one text, a template
abbrev HasText : List Line → Message → Type 0
HasText lines message = (text : List ℕ) × (line_texts message.0 lines ≡ text ∷ []) × IsTemplate text message.1 message.2 (pieces_of text)

its_text : (lines : List Line) (messages : List Message) (i : ℕ) (d : Message) → are_lines lines messages ≡ true → are_distinct messages ≡ true
    → i < length messages → HasText lines (get_or messages i d)
its_text lines [] i d are once low = absurd (omega (arith, low))
its_text [] (message ∷ messages) i d are once low = absurd (false≢true are)
its_text (line ∷ lines) (message ∷ messages) zero d are once low =
    let none = no_text message.0 lines messages (others line lines message messages are) (not_so (is_name messages message.0) (and_left _ _ once)) in
    let same = (bytes_eq-Decides line.0 message.0).1 (first_code line lines message messages are) in (
      line.1,
      ap (λ b. cond b (line.1 ∷ line_texts message.0 lines) (line_texts message.0 lines)) same ∙ ap (λ l. line.1 ∷ l) none,
      first_text line lines message messages are,
    )
its_text (line ∷ lines) (message ∷ messages) (suc i) d are once low =
    let within : i < length messages = omega (arith, low) in
    let code = (get_or messages i d).0 in
    let other = unlike messages i d message.0 within (not_so (is_name messages message.0) (and_left _ _ once)) in
    let its = its_text lines messages i d (others line lines message messages are) (and_right _ _ once) within in
    (its.0, passed code line lines (ap (λ c. bytes_eq c code) (first_code line lines message messages are) ∙ other) ∙ its.1, its.2)

-- the messages of the tables that are shipped: those of the library, and behind them the further ones
abbrev every : List Message
every = LIBRARY ++ FURTHER

every_distinct : are_distinct every ≡ true
every_distinct = refl

-- lines in order make a good table
good_lines : (lines : List Line) → are_lines lines every ≡ true → AreGoodLines false lines
good_lines lines are entries others same lacks = λ i d low.
    let message = get_or LIBRARY i d in
    let within : i < length every = omega (arith, low, length-append LIBRARY FURTHER) in
    let its = subst (λ m. HasText lines m) (get_or_append_left LIBRARY FURTHER d i low) (its_text lines every i d are every_distinct within) in
    let texts = under_lines message.0 entries ∙ ap (line_texts message.0) same ∙ its.1 in
    (its.0, one_text (texts_under message.0 entries) (texts_under message.0 others) its.0 texts, (pieces_of its.0, its.2))

-- each table that is shipped is in order
in_order : list_all (λ it. are_lines it.1 every) SHIPPED ≡ true
unfolding pieces_of
in_order = refl

pub shipped : All (λ it. AreGoodLines false it.1) SHIPPED
shipped = held (λ it. AreGoodLines false it.1) (λ it. are_lines it.1 every) (λ it are. good_lines it.1 are) SHIPPED in_order

-- languages with these tables have good ones
pub good_languages : (languages : List Language) → map tagged languages ≡ SHIPPED → AreGoodTables languages
unfolding AreGoodTables
good_languages languages same = λ i language low.
    let within : i < length (map tagged languages) = omega (arith, low, length-map languages tagged) in
    let lines = subst (All (λ it. AreGoodLines false it.1)) (sym same) shipped i (tagged language) within in
    let its = subst (λ it. AreGoodLines false it.1) (get_or-map tagged languages i language (tagged language) low) lines in
    its (get_or languages i language).table.now [] refl (λ e. absurd (false≢true e))

-- the table of a language that is there is good
pub there_good : (offered : List Language) (picked : Option ℕ → Type 0) (language : Language) → AreGoodTables offered → IsThere offered picked (Some language)
    → AreGood language.table.now []
unfolding AreGoodTables
there_good offered picked language all there =
    let P = λ (it : Language). AreGood it.table.now [] in
    subst P (get_or_from_slice_get offered there.0 language language there.1)
    (All-get_or P offered there.0 language (slice_get_within offered there.0 language there.1) all)

-- the table that a command line asks for is good, where all are
pub spoken_good : (tag : Option (Bor (List ℕ))) (offered : List Language) (otherwise table : List Entry) → AreGoodTables offered → AreGood otherwise []
    → AreOf tag offered otherwise table → AreGood table []
spoken_good None offered otherwise table all other are = subst (λ t. AreGood t []) (sym are) other
spoken_good (Some tag) offered otherwise table all other are =
    subst (λ t. AreGood t []) (sym are.3) (there_good offered (IsFound offered tag.now) are.1 all are.2)
