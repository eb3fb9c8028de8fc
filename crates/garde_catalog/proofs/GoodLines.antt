-- Lines that make a good table.
use Rattle.std.proofs.Common.{◌≡◌, ◌++◌, ◌∷◌, ◌∙◌, ◌<◌, ◌||◌, ℕ, zero, suc, List, [], All, Bool, true, false, not, ◌&&◌, Option, Some, None, bytes_eq, cond, length, map, get_or, refl, sym, ap, append-nil, arith}
use Rattle.std.proofs.lemmas.Option.{none-some}
use Rattle.std.proofs.lemmas.Bool.{false_from_ne_true, false≢true}
use Rattle.std.proofs.lemmas.Slice.Eq.{bytes_eq-Decides}
use Rattle.std.proofs.lemmas.List.Elements.{All-get_or, All-head, All-tail}
use Rattle.std.specs.List.{flat_map}
use Rattle.std.proofs.lemmas.List.Folds.{list_any_at}
use Rattle.std.specs.Prelude.{unwrap_or}
use Rattle.garde_catalog.specs.Catalog.{Entry, IsGood, texts_under}
use Rattle.garde_catalog.specs.Messages.{LIBRARY, Message}
use Rattle.garde_catalog.specs.Lines.{AreGoodLines, AreOwn, Line, is_name, joined, line_of, lines_of, with_first_line}
use Rattle.garde_catalog.specs.Template.{IsTemplate, pieces_of}
use Rattle.garde_catalog.proofs.Judged.{and_left, and_right}
use Rattle.garde_catalog.proofs.Made.{branch, one_text, other_texts}

-- ---- each code is that of one message of the library

abbrev Picked : Type 0
Picked = List ℕ → List (List ℕ)

-- what there is of a code among these messages
abbrev picked : Picked → List ℕ → List Message → List (List ℕ)
picked f code messages = flat_map (λ m. cond (bytes_eq m.0 code) (f m.0) []) messages

-- no two of these messages have one code
abbrev pub are_distinct : List Message → Bool
are_distinct [] = true
are_distinct (m ∷ messages) = not (is_name messages m.0) && are_distinct messages

pub distinct : are_distinct LIBRARY ≡ true
distinct = refl

pub or_left : (a b : Bool) → (a || b) ≡ false → a ≡ false
or_left true b e = absurd (false≢true (sym e))
or_left false b e = refl

pub or_right : (a b : Bool) → (a || b) ≡ false → b ≡ false
or_right true b e = absurd (false≢true (sym e))
or_right false b e = e

pub not_so : (b : Bool) → not b ≡ true → b ≡ false
not_so true e = absurd (false≢true e)
not_so false e = refl

pub turned : (xs ys : List ℕ) → bytes_eq xs ys ≡ false → bytes_eq ys xs ≡ false
turned xs ys h =
    false_from_ne_true (bytes_eq ys xs) (λ same. false≢true (sym h ∙ (bytes_eq-Decides xs ys).1 (sym ((bytes_eq-Decides ys xs).0 same))))

-- a code that no message has is not that of one of them
pub unlike : (messages : List Message) (i : ℕ) (d : Message) (code : List ℕ) → i < length messages → is_name messages code ≡ false
    → bytes_eq code (get_or messages i d).0 ≡ false
unlike messages i d code low none =
    false_from_ne_true (bytes_eq code (get_or messages i d).0) (λ same. false≢true (sym none ∙ list_any_at (λ m. bytes_eq code m.0) messages i d low same))

passed_over : (f : Picked) (code : List ℕ) (m : Message) (rest : List (List ℕ)) → bytes_eq m.0 code ≡ false → cond (bytes_eq m.0 code) (f m.0) [] ++ rest ≡ rest
passed_over f code m rest e = ap (λ b. cond b (f m.0) [] ++ rest) e

-- there is nothing of a code that no message has
none_picked : (f : Picked) (code : List ℕ) (messages : List Message) → is_name messages code ≡ false → picked f code messages ≡ []
none_picked f code [] none = refl
none_picked f code (m ∷ messages) none =
    passed_over f code m (picked f code messages) (turned code m.0 (or_left (bytes_eq code m.0) (is_name messages code) none))
    ∙ none_picked f code messages (or_right (bytes_eq code m.0) (is_name messages code) none)

-- of a code there is what its one message has
once : (f : Picked) (messages : List Message) (i : ℕ) (d : Message) → are_distinct messages ≡ true → i < length messages
    → picked f (get_or messages i d).0 messages ≡ f (get_or messages i d).0
once f [] i d e low = absurd (omega (arith, low))
once f (m ∷ messages) zero d e low =
    let first = not_so (is_name messages m.0) (and_left (not (is_name messages m.0)) (are_distinct messages) e) in
    ap (λ b. cond b (f m.0) [] ++ picked f m.0 messages) ((bytes_eq-Decides m.0 m.0).1 refl)
    ∙ ap (λ l. f m.0 ++ l) (none_picked f m.0 messages first) ∙ append-nil (f m.0)
once f (m ∷ messages) (suc i) d e low =
    let first = not_so (is_name messages m.0) (and_left (not (is_name messages m.0)) (are_distinct messages) e) in
    let within : i < length messages = omega (arith, low) in
    passed_over f (get_or messages i d).0 m (picked f (get_or messages i d).0 messages) (unlike messages i d m.0 within first)
    ∙ once f messages i d (and_right (not (is_name messages m.0)) (are_distinct messages) e) within

-- and nothing among messages of your own
none_own : (f : Picked) (own : List Message) (i : ℕ) (d : Message) → AreOwn own → i < length LIBRARY → picked f (get_or LIBRARY i d).0 own ≡ []
none_own f [] i d are low = refl
none_own f (m ∷ own) i d are low =
    passed_over f (get_or LIBRARY i d).0 m (picked f (get_or LIBRARY i d).0 own) (unlike LIBRARY i d m.0 low (All-head (λ o. is_name LIBRARY o.0 ≡ false) m own are))
    ∙ none_own f own i d (All-tail (λ o. is_name LIBRARY o.0 ≡ false) m own are) low

-- the texts that lines have under a code
abbrev pub line_texts : List ℕ → List Line → List (List ℕ)
line_texts code [] = []
line_texts code (line ∷ lines) = cond (bytes_eq line.0 code) (line.1 ∷ line_texts code lines) (line_texts code lines)

pub under_lines : (code : List ℕ) (entries : List Entry) → texts_under code entries ≡ line_texts code (map line_of entries)
under_lines code [] = refl
under_lines code (entry ∷ entries) = ap (λ l. cond (bytes_eq entry.0.now code) (entry.1.now ∷ l) l) (under_lines code entries)

-- the text that was found, as a list
abbrev texts_at : Option (Option (List ℕ)) → List (List ℕ)
texts_at (Some (Some text)) = text ∷ []
texts_at (Some None) = []
texts_at None = []

front : (b : Bool) (text : List ℕ) (rest : List (List ℕ)) → cond b (text ∷ rest) rest ≡ cond b (text ∷ []) [] ++ rest
front true text rest = refl
front false text rest = refl

no_front : (b : Bool) (rest : List (List ℕ)) → rest ≡ cond b [] [] ++ rest
no_front true rest = refl
no_front false rest = refl

some_is : {A : Type 0} {xs ys : List A} → Some xs ≡ Some ys → xs ≡ ys
some_is e = ap (λ o. unwrap_or o []) e

both_lines : (code : List ℕ) (xs ys : List Line) → line_texts code (xs ++ ys) ≡ line_texts code xs ++ line_texts code ys
both_lines code [] ys = refl
both_lines code (line ∷ xs) ys =
    branch (bytes_eq line.0 code) line.1 (line_texts code xs) (line_texts code ys) (line_texts code (xs ++ ys)) (both_lines code xs ys)

abbrev Parts : List ℕ → List ℕ → Option (Option (List ℕ)) → Option (List Line) → List Line → Type 0
Parts code k found others lines =
    (rest : List Line) × (others ≡ Some rest) × (line_texts code lines ≡ cond (bytes_eq k code) (texts_at found) [] ++ line_texts code rest)

-- lines are the text of a code and other lines
parts : (code k : List ℕ) (found : Option (Option (List ℕ))) (others : Option (List Line)) (lines : List Line) → with_first_line k found others ≡ Some lines
    → Parts code k found others lines
parts code k (Some (Some text)) (Some rest) lines e =
    (rest, refl, ap (line_texts code) (sym (some_is e)) ∙ front (bytes_eq k code) text (line_texts code rest))
parts code k (Some None) (Some rest) lines e =
    (rest, refl, ap (line_texts code) (sym (some_is e)) ∙ no_front (bytes_eq k code) (line_texts code rest))
parts code k (Some found) None lines e = absurd (none-some lines e)
parts code k None others lines e = absurd (none-some lines e)

-- the texts of a code among the lines of messages
lines_under : (text_at : List ℕ → Option (Option (List ℕ))) (code : List ℕ) (messages : List Message) (lines : List Line) → lines_of text_at messages ≡ Some lines
    → line_texts code lines ≡ picked (λ k. texts_at (text_at k)) code messages
lines_under text_at code [] lines e = ap (line_texts code) (sym (some_is e))
lines_under text_at code (m ∷ messages) lines e =
    let its = parts code m.0 (text_at m.0) (lines_of text_at messages) lines e in
    its.2 ∙ ap (λ l. cond (bytes_eq m.0 code) (texts_at (text_at m.0)) [] ++ l) (lines_under text_at code messages its.0 its.1)

-- what was found of a message is right: a template, or nothing where it may be missing
abbrev pub Fits : Bool → Message → Option (Option (List ℕ)) → Type 0
Fits may_lack message (Some (Some text)) = IsTemplate text message.1 message.2 (pieces_of text)
Fits may_lack message (Some None) = may_lack ≡ true
Fits may_lack message None = ⊥

good_message : (may_lack : Bool) (message : Message) (entries others : List Entry) (found : Option (Option (List ℕ))) → Fits may_lack message found
    → texts_under message.0 entries ≡ texts_at found → (may_lack ≡ true → IsGood [] others message) → IsGood entries others message
good_message may_lack message entries others (Some (Some text)) fits texts good =
    (text, one_text (texts_under message.0 entries) (texts_under message.0 others) text texts, (pieces_of text, fits))
good_message may_lack message entries others (Some None) fits texts good =
    let its = good fits in (its.0, other_texts (texts_under message.0 entries) (texts_under message.0 others) texts ∙ its.1, its.2)
good_message may_lack message entries others None fits texts good = absurd fits

-- lines that are joined
abbrev Both : Option (List Line) → Option (List Line) → List Line → Type 0
Both first second lines = (xs : List Line) × (ys : List Line) × (first ≡ Some xs) × (second ≡ Some ys) × (lines ≡ xs ++ ys)

both : (first second : Option (List Line)) (lines : List Line) → joined first second ≡ Some lines → Both first second lines
both (Some xs) (Some ys) lines e = (xs, ys, refl, refl, sym (some_is e))
both (Some xs) None lines e = absurd (none-some lines e)
both None second lines e = absurd (none-some lines e)

-- what holds of each message that is read
abbrev pub AllFit : Bool → (List ℕ → Option (Option (List ℕ))) → List Message → Type 0
AllFit may_lack text_at messages = All (λ message. Fits may_lack message (text_at message.0)) messages

-- the lines of all messages make a good table
pub good_lines : (may_lack : Bool) (text_at : List ℕ → Option (Option (List ℕ))) (own : List Message) (lines : List Line) → AreOwn own → AllFit may_lack text_at LIBRARY
    → joined (lines_of text_at LIBRARY) (lines_of text_at own) ≡ Some lines → AreGoodLines may_lack lines
good_lines may_lack text_at own lines are_own fits is entries others same good = λ i d low.
    let message = get_or LIBRARY i d in
    let code = message.0 in
    let its = both (lines_of text_at LIBRARY) (lines_of text_at own) lines is in
    let f = λ (k : List ℕ). texts_at (text_at k) in
    let library = lines_under text_at code LIBRARY its.0 its.2 ∙ once f LIBRARY i d distinct low in
    let none = lines_under text_at code own its.1 its.3 ∙ none_own f own i d are_own low in
    let texts = under_lines code entries ∙ ap (line_texts code) (same ∙ its.4) ∙ both_lines code its.0 its.1
    ∙ ap (λ l. l ++ line_texts code its.1) library ∙ ap (λ l. texts_at (text_at code) ++ l) none ∙ append-nil (texts_at (text_at code)) in
    good_message may_lack message entries others (text_at code) (All-get_or (λ m. Fits may_lack m (text_at m.0)) LIBRARY i d low fits) texts (λ lacks. good lacks i d low)

one_more : (may_lack : Bool) (message : Message) (found : Option (Option (List ℕ))) (others : Option (List Line)) (rest : List Line) → Fits may_lack message found
    → others ≡ Some rest → (lines : List Line) × (with_first_line message.0 found others ≡ Some lines)
one_more may_lack message (Some (Some text)) others rest fits is = ((message.0, text) ∷ rest, ap (with_first_line message.0 (Some (Some text))) is)
one_more may_lack message (Some None) others rest fits is = (rest, ap (with_first_line message.0 (Some None)) is)
one_more may_lack message None others rest fits is = absurd fits

-- and there are such lines
pub has_lines : (may_lack : Bool) (text_at : List ℕ → Option (Option (List ℕ))) (messages : List Message) → AllFit may_lack text_at messages
    → (lines : List Line) × (lines_of text_at messages ≡ Some lines)
has_lines may_lack text_at [] fits = ([], refl)
has_lines may_lack text_at (message ∷ messages) fits =
    let P = λ (m : Message). Fits may_lack m (text_at m.0) in
    let others = has_lines may_lack text_at messages (All-tail P message messages fits) in
    one_more may_lack message (text_at message.0) (lines_of text_at messages) others.0 (All-head P message messages fits) others.1
