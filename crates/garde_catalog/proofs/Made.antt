-- The messages of a table that are checked one by one, and the text of each.
use Rattle.std.proofs.Common.{◌≡◌, ◌≢◌, ◌++◌, ◌∷◌, ◌+◌, ◌-◌, ◌<◌, ◌≤◌, ◌∙◌, ℕ, zero, suc, List, [], All, Option, Some, None, Bool, true, false, bytes_eq, cond, length, map, take, get_or, slice_get, refl, sym, ap, subst, append-nil, length-append, drop, take-append-drop, inl, inr, ⊎_elim, ◌⊎◌, arith}
use Rattle.std.proofs.lemmas.List.{get_or-map, get_or_past, length-map, take_more}
use Rattle.std.proofs.lemmas.List.Elements.{All-get_or, All-head, All-map, All-more}
use Rattle.std.proofs.lemmas.Option.{get_or_from_slice_get, none-some, slice_get-map, slice_get_within}
use Rattle.std.proofs.Math.Nat.{eq-or-lt_of_le, zero-add}
use Rattle.std.proofs.lemmas.Slice.Eq.{bytes_eq-Decides}
use Rattle.std.proofs.lemmas.Bool.{false_from_ne_true, false≢true}
use Rattle.std.specs.Prelude.{option_map, unwrap_or}
use Rattle.garde_catalog.specs.Messages.{LIBRARY, Message, Stated, code_at, message_of}
use Rattle.garde_catalog.specs.Template.{IsTemplate, Piece, pieces_of}
use Rattle.garde_catalog.specs.Catalog.{AreGood, AreLines, AreTold, Entry, HasCode, HasFault, HasNotOne, IsCatalog, IsFault, IsGood, IsInOrder, IsListed, IsTold, IsWrong, lines_in, only_text, or_those, others_in, text_on, texts_of, texts_under, word_at, word_in}
use Rattle.garde_catalog.specs.declared.lines.Lines.{Lines}
use Rattle.garde_catalog.specs.declared.catalog.Catalog.{Catalog}
use Rattle.garde_catalog.specs.declared.fault.CatalogFault.{CatalogFault}
use Rattle.garde_catalog.specs.declared.fault.Wrong.{Wrong}
use Rattle.garde_catalog.specs.declared.fault.Wrong.TheVariants as wrongs
use Rattle.garde_catalog.proofs.Reading.{its_pieces}

-- the next message is told, too, and the others still are where there are more faults
pub next : (entries others : List Entry) (messages : List Stated) (i : ℕ) (d : Stated) (faults more : List CatalogFault) → i < length messages
    → ((m : Message) → HasFault faults m → HasFault more m) → IsTold entries others more (message_of (get_or messages i d))
    → All (λ m. IsTold entries others faults (message_of m)) (take i messages) → All (λ m. IsTold entries others more (message_of m)) (take (i + 1) messages)
next entries others messages i d faults more low kept told h =
    All-more (λ m. IsTold entries others more (message_of m)) messages i d low (λ k other within. ⊎_elim inl (λ has. inr (kept _ has)) (h k other within)) told

-- what is told of each message of a table of the code is told of the messages of the library
pub all_told : (entries others : List Entry) (faults : List CatalogFault) (messages : List Stated) → map message_of messages ≡ LIBRARY
    → All (λ m. IsTold entries others faults (message_of m)) messages → AreTold entries others faults
all_told entries others faults messages same h =
    subst (All (IsTold entries others faults)) same (All-map (IsTold entries others faults) message_of messages h)

-- its messages are those of the library
pub listed : (messages : List Stated) (i : ℕ) (d : Stated) → map message_of messages ≡ LIBRARY → i < length messages → IsListed (message_of (get_or messages i d))
listed messages i d same low =
    let message = message_of (get_or messages i d) in
    (i, message, omega (arith, low, ap length same, length-map messages message_of), subst (λ l. get_or l i message ≡ message) same (get_or-map message_of messages i d message low), refl)

-- without a fault each message is good
pub all_good : (entries others : List Entry) (faults : List CatalogFault) → faults ≡ [] → AreTold entries others faults → AreGood entries others
all_good entries others faults none told =
    λ k other within. ⊎_elim (λ good. good) (λ has. absurd (omega (arith, has.2, ap length none))) (told k other within)

pub branch : (t : Bool) (x : List ℕ) (fs bs whole : List (List ℕ)) → whole ≡ fs ++ bs → cond t (x ∷ whole) whole ≡ cond t (x ∷ fs) fs ++ bs
branch true x fs bs whole e = ap (λ l. x ∷ l) e
branch false x fs bs whole e = e

same_bytes : (xs ys : List ℕ) → xs ≡ ys → bytes_eq xs ys ≡ true
same_bytes xs ys e = (bytes_eq-Decides xs ys).1 e

other_bytes : (xs ys : List ℕ) → xs ≢ ys → bytes_eq xs ys ≡ false
other_bytes xs ys e = false_from_ne_true (bytes_eq xs ys) (λ same. e ((bytes_eq-Decides xs ys).0 same))

-- the answer of a comparison
pub is_code : (xs ys : List ℕ) {b : Bool} → b ≡ bytes_eq xs ys → b ≡ true → xs ≡ ys
is_code xs ys is holds = (bytes_eq-Decides xs ys).0 (sym is ∙ holds)

pub is_no_code : (xs ys : List ℕ) {b : Bool} → b ≡ bytes_eq xs ys → b ≡ false → xs ≢ ys
is_no_code xs ys is fails e = false≢true (sym fails ∙ is ∙ same_bytes xs ys e)

-- the texts under a code of a table and another one behind it
under_both : (code : List ℕ) (front back : List Entry) → texts_under code (front ++ back) ≡ texts_under code front ++ texts_under code back
under_both code [] back = refl
under_both code (entry ∷ front) back =
    branch (bytes_eq entry.0.now code) entry.1.now (texts_under code front) (texts_under code back) (texts_under code (front ++ back))
    (under_both code front back)

under_next : (code : List ℕ) (entries : List Entry) (i : ℕ) (d : Entry) → i < length entries
    → texts_under code (take (i + 1) entries) ≡ texts_under code (take i entries) ++ texts_under code (get_or entries i d ∷ [])
under_next code entries i d low = rw (take_more entries i d low) (under_both code (take i entries) (get_or entries i d ∷ []))

-- the next line has this code
pub same_line : (code : List ℕ) (entries : List Entry) (i : ℕ) (d : Entry) → i < length entries → (get_or entries i d).0.now ≡ code
    → texts_under code (take (i + 1) entries) ≡ texts_under code (take i entries) ++ ((get_or entries i d).1.now ∷ [])
same_line code entries i d low e =
    under_next code entries i d low ∙ ap (λ t. texts_under code (take i entries) ++ cond t ((get_or entries i d).1.now ∷ []) []) (same_bytes _ _ e)

-- it has another
pub other_line : (code : List ℕ) (entries : List Entry) (i : ℕ) (d : Entry) → i < length entries → (get_or entries i d).0.now ≢ code
    → texts_under code (take (i + 1) entries) ≡ texts_under code (take i entries)
other_line code entries i d low e =
    under_next code entries i d low ∙ ap (λ t. texts_under code (take i entries) ++ cond t ((get_or entries i d).1.now ∷ []) []) (other_bytes _ _ e)
    ∙ append-nil (texts_under code (take i entries))

-- two lines have this code
pub second_line : (code : List ℕ) (entries : List Entry) (i : ℕ) (d : Entry) (text : List ℕ) → i < length entries
    → (get_or entries i d).0.now ≡ code → texts_under code (take i entries) ≡ text ∷ [] → 2 ≤ length (texts_under code entries)
second_line code entries i d text low e one =
    let front = same_line code entries i d low e ∙ ap (λ l. l ++ ((get_or entries i d).1.now ∷ [])) one in
    let whole = ap (texts_under code) (sym (take-append-drop (i + 1) entries)) ∙ under_both code (take (i + 1) entries) (drop (i + 1) entries)
    ∙ ap (λ l. l ++ texts_under code (drop (i + 1) entries)) front in
    omega (arith, ap length whole)

-- the texts of a code in two tables
pub other_texts : (xs ys : List (List ℕ)) → xs ≡ [] → or_those xs ys ≡ ys
other_texts xs ys e = ap (λ l. or_those l ys) e

pub one_text : (xs ys : List (List ℕ)) (text : List ℕ) → xs ≡ text ∷ [] → or_those xs ys ≡ text ∷ []
one_text xs ys text e = ap (λ l. or_those l ys) e

pub several_texts : (xs ys : List (List ℕ)) → 2 ≤ length xs → 2 ≤ length (or_those xs ys)
several_texts [] ys h = absurd (omega (arith, h))
several_texts (x ∷ xs) ys h = h

-- ---- the text of a code

one_of : (front back : List (List ℕ)) (text other : List ℕ) → (front ++ (text ∷ [])) ++ back ≡ other ∷ [] → text ≡ other
one_of [] back text other e = ap (λ l. get_or l 0 []) e
one_of (first ∷ front) back text other e =
    absurd (omega (arith, ap length e, length-append (first ∷ (front ++ (text ∷ []))) back, length-append front (text ∷ [])))

those_first : (xs ys : List (List ℕ)) (text : List ℕ) → or_those xs ys ≡ text ∷ [] → 1 ≤ length xs → xs ≡ text ∷ []
those_first [] ys text e some = absurd (omega (arith, some))
those_first (x ∷ xs) ys text e some = e

-- a line with this code has the only text of the code
its_text : (entries others : List Entry) (code : List ℕ) (i : ℕ) (line : Entry) (text : List ℕ) → i < length entries → get_or entries i line ≡ line
    → line.0.now ≡ code → texts_of entries others code ≡ text ∷ [] → line.1.now ≡ text
its_text entries others code i line text low at e one =
    let back = texts_under code (drop (i + 1) entries) in
    let front = same_line code entries i line low (ap (λ l. l.0.now) at ∙ e) in
    let whole = ap (texts_under code) (sym (take-append-drop (i + 1) entries)) ∙ under_both code (take (i + 1) entries) (drop (i + 1) entries)
    ∙ ap (λ l. l ++ back) (front ∙ ap (λ l. texts_under code (take i entries) ++ (l.1.now ∷ [])) at) in
    let some : 1 ≤ length (texts_under code entries) =
    omega (arith, ap length whole, length-append (texts_under code (take i entries) ++ (line.1.now ∷ [])) back, length-append (texts_under code (take i entries)) (line.1.now ∷ [])) in
    one_of (texts_under code (take i entries)) back line.1.now text (sym whole ∙ those_first (texts_under code entries) (texts_under code others) text one some)

-- ---- a table in order

-- the messages so far have their lines in their places
abbrev pub InOrderUpTo : List Entry → List Stated → ℕ → Type 0
InOrderUpTo entries messages i = (place : ℕ) (message : Stated) → place < i → slice_get messages place ≡ Some message → HasCode (slice_get entries place) message.0.now

pub in_order_next : (entries : List Entry) (messages : List Stated) (i : ℕ) (d : Stated) → i < length messages
    → HasCode (slice_get entries i) (get_or messages i d).0.now → InOrderUpTo entries messages i → InOrderUpTo entries messages (i + 1)
in_order_next entries messages i d low has so_far place message within at = elim (eq-or-lt_of_le {n = place} {m = i} (omega (arith, within))) [
  | inl here ↦ subst (λ k. HasCode (slice_get entries k) message.0.now) (sym here)
      (subst (λ m. HasCode (slice_get entries i) m.0.now) (get_or_from_slice_get messages i message d (subst (λ k. slice_get messages k ≡ Some message) here at)) has)
  | inr before ↦ so_far place message before at
]

pub in_order_all : (entries : List Entry) (messages : List Stated) (i : ℕ) → length messages ≤ i → InOrderUpTo entries messages i → IsInOrder entries messages
in_order_all entries messages i past so_far place message at = so_far place message (omega (arith, past, slice_get_within messages place message at)) at

module _ (entries : List Entry) (messages : List Stated) (order : IsInOrder entries messages) (place : ℕ) (message : Message) where
  its_code : (found : Option Stated) → slice_get messages place ≡ found → option_map message_of found ≡ Some message → HasCode (slice_get entries place) message.0
  its_code None is e = absurd (none-some message e)
  its_code (Some stated) is e = subst (λ (m : Message). HasCode (slice_get entries place) m.0) (ap (λ o. unwrap_or o message) e) (order place stated is)

  -- the messages of the library, too
  pub in_order : map message_of messages ≡ LIBRARY → slice_get LIBRARY place ≡ Some message → HasCode (slice_get entries place) message.0
  in_order same at = its_code (slice_get messages place) refl (sym (slice_get-map message_of messages place) ∙ ap (λ l. slice_get l place) same ∙ at)

-- the code in a place that has a message, and in any other
pub code_there : (messages : List Stated) (place : ℕ) (message : Stated) → map message_of messages ≡ LIBRARY → slice_get messages place ≡ Some message
    → message.0.now ≡ code_at place
code_there messages place message same at =
    let listed = ap (λ l. slice_get l place) (sym same) ∙ slice_get-map message_of messages place ∙ ap (option_map message_of) at in
    sym (ap (λ (m : Message). m.0) (get_or_from_slice_get LIBRARY place (message_of message) ([], [], []) listed))

pub no_code_there : (messages : List Stated) (place : ℕ) → map message_of messages ≡ LIBRARY → length messages ≤ place → [] ≡ code_at place
no_code_there messages place same past =
    let beyond = subst (λ l. length l ≤ place) same (subst (λ n. n ≤ place) (sym (length-map messages message_of)) past) in
    sym (ap (λ (m : Message). m.0) (get_or_past LIBRARY place ([], [], []) beyond))

-- the text in a place that has a line, and in any other
pub word_in_place : (lines others : Lines) (place : ℕ) (line : Entry) → slice_get lines.ordered.now place ≡ Some line → line.1.now ≡ word_in lines others place
unfolding word_in
word_in_place lines others place line e =
    sym (ap (λ found. unwrap_or (text_on found) (only_text (texts_of lines.all.now others.all.now (code_at place)))) e)

pub word_elsewhere : (lines others : Lines) (place : ℕ) → slice_get lines.ordered.now place ≡ None
    → only_text (texts_of lines.all.now others.all.now (code_at place)) ≡ word_in lines others place
unfolding word_in
word_elsewhere lines others place e =
    sym (ap (λ found. unwrap_or (text_on found) (only_text (texts_of lines.all.now others.all.now (code_at place)))) e)

-- a line that is there and has the code has its only text
there : (entries others : List Entry) (code : List ℕ) (place : ℕ) (found : Option Entry) (text : List ℕ) → slice_get entries place ≡ found → HasCode found code
    → texts_of entries others code ≡ text ∷ [] → text_on found ≡ Some text
there entries others code place None text is has one = absurd has
there entries others code place (Some line) text is has one =
    ap (λ t. Some t) (its_text entries others code place line text (slice_get_within entries place line is) (get_or_from_slice_get entries place line line is) has one)

-- a message with one text has that in its place
one_word : (entries others : List Entry) (lines rest : Lines) (place : ℕ) (message : Message) (text : List ℕ) → AreLines entries lines → AreLines others rest
    → slice_get LIBRARY place ≡ Some message → texts_of entries others message.0 ≡ text ∷ [] → word_in lines rest place ≡ text
unfolding word_in
one_word entries others lines rest place message text are those at one =
    let code : code_at place ≡ message.0 = ap (λ m. m.0) (get_or_from_slice_get LIBRARY place message ([], [], []) at) in
    let other : only_text (texts_of lines.all.now rest.all.now (code_at place)) ≡ text = rw (are.all, those.all, code) (ap only_text one) in
    elim are.split [
      | inl plain ↦ ap (λ l. unwrap_or (text_on (slice_get l place)) (only_text (texts_of lines.all.now rest.all.now (code_at place)))) plain.0 ∙ other
      | inr sorted ↦ ap (λ l. unwrap_or (text_on (slice_get l place)) (only_text (texts_of lines.all.now rest.all.now (code_at place)))) sorted.1
          ∙ ap (λ o. unwrap_or o (only_text (texts_of lines.all.now rest.all.now (code_at place))))
          (there entries others message.0 place (slice_get entries place) text refl (sorted.0 place message at) one)
    ]

-- ---- the lines of rules that bring their codes

behind : (n k : ℕ) (entries : List Entry) → slice_get (drop n entries) k ≡ slice_get entries (n + k)
behind zero k entries = ap (slice_get entries) (sym (zero-add k))
behind (suc n) k [] = refl
behind (suc n) k (entry ∷ entries) =
    let later : suc (n + k) ≡ suc n + k = omega arith in
    behind n k entries ∙ ap (slice_get (entry ∷ entries)) later

-- a line with a code has a text of it
has_text : (entries : List Entry) (code : List ℕ) (k : ℕ) (found : Option Entry) → slice_get entries k ≡ found → HasCode found code → 1 ≤ length (texts_under code entries)
has_text entries code k None is has = absurd has
has_text entries code k (Some line) is has =
    let back = texts_under code (drop (k + 1) entries) in
    let before = texts_under code (take k entries) in
    let at = get_or_from_slice_get entries k line line is in
    let whole = ap (texts_under code) (sym (take-append-drop (k + 1) entries)) ∙ under_both code (take (k + 1) entries) (drop (k + 1) entries)
    ∙ ap (λ l. l ++ back) (same_line code entries k line (slice_get_within entries k line is) (ap (λ l. l.0.now) at ∙ has)) in
    omega (arith, ap length whole, length-append (before ++ ((get_or entries k line).1.now ∷ [])) back, length-append before ((get_or entries k line).1.now ∷ []))

only_back : (front back texts : List (List ℕ)) → front ++ back ≡ texts → length texts ≤ 1 → 1 ≤ length back → back ≡ texts
only_back [] back texts e few some = e
only_back (x ∷ front) back texts e few some = absurd (omega (arith, few, some, ap length e, length-append (x ∷ front) back))

-- the texts of a rule of the library are those among its lines
named_under : (entries : List Entry) (lines : Lines) (k : ℕ) (message : Message) (texts : List (List ℕ)) → AreLines entries lines
    → slice_get LIBRARY (68 + k) ≡ Some message → texts_under message.0 entries ≡ texts → length texts ≤ 1 → texts_under message.0 lines.named.now ≡ texts
named_under entries lines k message texts are at e few = elim are.split [
  | inl plain ↦ ap (texts_under message.0) plain.1 ∙ e
  | inr sorted ↦
      let back = texts_under message.0 (drop 68 entries) in
      let whole = sym (under_both message.0 (take 68 entries) (drop 68 entries)) ∙ ap (texts_under message.0) (take-append-drop 68 entries) ∙ e in
      let has = subst (λ found. HasCode found message.0) (sym (behind 68 k entries)) (sorted.0 (68 + k) message at) in
      ap (texts_under message.0) sorted.2
      ∙ only_back (texts_under message.0 (take 68 entries)) back texts whole few (has_text (drop 68 entries) message.0 k (slice_get (drop 68 entries) k) refl has)
]

either : (xs ys : List (List ℕ)) (text : List ℕ) → or_those xs ys ≡ text ∷ [] → (xs ≡ text ∷ []) ⊎ ((xs ≡ []) × (ys ≡ text ∷ []))
either [] ys text e = inr (refl, e)
either (x ∷ xs) ys text e = inl e

named_both : (entries others : List Entry) (lines rest : Lines) (k : ℕ) (message : Message) (text : List ℕ) → AreLines entries lines → AreLines others rest
    → slice_get LIBRARY (68 + k) ≡ Some message → texts_of entries others message.0 ≡ text ∷ [] → texts_of lines.named.now rest.named.now message.0 ≡ text ∷ []
named_both entries others lines rest k message text are those at one =
    let first = texts_under message.0 lines.named.now in
    let second = texts_under message.0 rest.named.now in
    elim (either (texts_under message.0 entries) (texts_under message.0 others) text one) [
      | inl mine ↦ one_text first second text (named_under entries lines k message (text ∷ []) are at mine (omega arith))
      | inr its ↦ other_texts first second (named_under entries lines k message [] are at its.0 (omega arith))
          ∙ named_under others rest k message (text ∷ []) those at its.1 (omega arith)
    ]

-- good tables make a catalog
pub is_catalog : (entries others : List Entry) (catalog : Catalog) → AreLines entries (lines_in catalog.tables) → AreLines others (others_in catalog.tables)
    → AreGood entries others → IsCatalog entries others catalog
is_catalog entries others catalog lines rest good place message at =
    let low = slice_get_within LIBRARY place message at in
    let its : IsGood entries others message = subst (IsGood entries others) (get_or_from_slice_get LIBRARY place message message at) (All-get_or (IsGood entries others) LIBRARY place message low good) in
    let word : word_at catalog place ≡ its.0 = one_word entries others (lines_in catalog.tables) (others_in catalog.tables) place message its.0 lines rest at its.1 in
    record {
      only = subst (λ (t : List ℕ). texts_of entries others message.0 ≡ t ∷ []) (sym word) its.1;
      template = subst (λ (t : List ℕ). IsTemplate t message.1 message.2 (pieces_of t)) (sym word)
          (subst (IsTemplate its.0 message.1 message.2) (sym (its_pieces its.0 message.1 message.2 its.2.0 its.2.1)) its.2.1);
      named = λ late.
          let later : 68 + (place - 68) ≡ place = omega (arith, late) in
          subst (λ (t : List ℕ). texts_of (lines_in catalog.tables).named.now (others_in catalog.tables).named.now message.0 ≡ t ∷ []) (sym word)
          (named_both entries others (lines_in catalog.tables) (others_in catalog.tables) (place - 68) message its.0 lines rest (ap (slice_get LIBRARY) later ∙ at) its.1);
    }

-- a code without one text has none
pub no_word : (texts : List (List ℕ)) (wrong : Wrong) → HasNotOne texts wrong → only_text texts ≡ []
no_word texts wrongs.Missing h = ap only_text h
no_word [] wrongs.Repeated h = refl
no_word (x ∷ []) wrongs.Repeated h = absurd (omega (arith, h))
no_word (x ∷ y ∷ texts) wrongs.Repeated h = refl
no_word texts (wrongs.Template fault) h = absurd h

-- a message with a fault is not good
bad : (texts : List (List ℕ)) (message : Message) (wrong : Wrong) (text : List ℕ) (pieces : List Piece) → IsWrong texts message wrong → texts ≡ text ∷ []
    → IsTemplate text message.1 message.2 pieces → ⊥
bad texts message wrongs.Missing text pieces h one fits = omega (arith, ap length (sym h ∙ one))
bad texts message wrongs.Repeated text pieces h one fits = omega (arith, h, ap length one)
bad texts message (wrongs.Template fault) text pieces h one fits =
    h.2 pieces (subst (λ t. IsTemplate t message.1 message.2 pieces) (ap (λ l. get_or l 0 []) (sym one ∙ h.1)) fits)

-- of a good message nothing is wrong
pub not_wrong : (entries others : List Entry) (message : Message) (wrong : Wrong) → IsGood entries others message
    → ¬ (IsWrong (texts_of entries others message.0) message wrong)
not_wrong entries others message wrong its is_wrong = bad (texts_of entries others message.0) message wrong its.0 its.2.0 is_wrong its.1 its.2.1

pub its_good : (entries others : List Entry) (message : Message) → IsListed message → AreGood entries others → IsGood entries others message
its_good entries others message listed good =
    subst (IsGood entries others) (listed.3 ∙ listed.4) (All-get_or (IsGood entries others) LIBRARY listed.0 listed.1 listed.2 good)

pub not_good : (entries others : List Entry) (faults : List CatalogFault) → faults ≢ [] → All (IsFault entries others) faults → ¬ (AreGood entries others)
not_good entries others [] some h good = some refl
not_good entries others (fault ∷ faults) some h good =
    let is_fault = All-head (IsFault entries others) fault faults h in
    let its = its_good entries others (message_of fault.message) is_fault.0 good in
    bad (texts_of entries others fault.message.0.now) (message_of fault.message) fault.wrong its.0 its.2.0 is_fault.1 its.1 its.2.1
