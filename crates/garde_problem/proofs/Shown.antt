-- No character of an escaped text acts, none of an escaped report but its line feeds, and a text in which none does is not changed.
use Rattle.std.proofs.Common.{◌≡◌, ℕ, zero, suc, ◌/◌, ◌%◌, ◌<◌, ◌≤◌, Bool, true, false, ◌||◌, ◌==◌, cond, List, [], ◌∷◌, ◌++◌, length, inl, inr, refl, sym, ap, ap₂, ◌∙◌, subst, arith, append-nil}
use Rattle.std.specs.Prelude.{◌&&◌, not, All}
use Rattle.std.specs.Char.{encode_utf8}
use Rattle.std.specs.Fmt.{digits, digits_onto, digit_glyph}
use Rattle.std.specs.List.{flat_map}
use Rattle.std.specs.Str.{chars, IsAscii, IsUtf8, NonePass}
use Rattle.std.proofs.lemmas.Bool.{cases_eq, and_parts, and_from}
use Rattle.std.proofs.lemmas.Bool.Decides.{nat_tests}
use Rattle.std.proofs.lemmas.List.Elements.{All-head, All-tail}
use Rattle.std.proofs.lemmas.Str.{encodes-append, encodes-IsAscii, encodes-chars, scalars-chars, chars-encodes}
use Rattle.std.proofs.lemmas.Str.Ascii.{IsAscii-nil, IsAscii-cons}
use lib.Utf8.{scalar, scalars, encodes, low_scalar}
use Rattle.garde_report.specs.declared.error.component.Kind.{Kind}
use Rattle.garde_report.specs.declared.error.component.Kind.TheVariants.{None, Key, Index}
use Rattle.garde_report.specs.Part.{Part}
use Rattle.garde_report.specs.Path.{child_text, root_text, part_text}
use Rattle.garde_report.specs.Report.{Entry, entry_text}
use Rattle.garde_problem.specs.Escaped.{is_acting, escape_letter, escaped_char, escaped_text, escaped_part, escaped_path, escaped_path_text, escaped_report_text}
use Rattle.garde_problem.specs.Laws.{IsText, acts_within_a_line, EscapedTextsAreShown, EscapedReportsAreShown, ShownTextsStay}

-- ---- printable ASCII

abbrev ArePrintable : List ℕ → Type 0
ArePrintable [] = Unit {0}
ArePrintable (b ∷ bs) = (32 ≤ b) × (b < 127) × ArePrintable bs

printable-append : (xs ys : List ℕ) → ArePrintable xs → ArePrintable ys → ArePrintable (xs ++ ys)
printable-append [] ys left right = right
printable-append (x ∷ xs) ys left right = (left.0, left.1, printable-append xs ys left.2 right)

printable_ascii : (bs : List ℕ) → ArePrintable bs → IsAscii bs
printable_ascii [] is = IsAscii-nil
printable_ascii (b ∷ bs) is = IsAscii-cons b bs (omega (arith, is.1)) (printable_ascii bs is.2)

printable_scalars : (bs : List ℕ) → ArePrintable bs → scalars bs ≡ true
printable_scalars [] is = refl
printable_scalars (b ∷ bs) is = and_from _ _ (low_scalar b (omega (arith, is.1))) (printable_scalars bs is.2)

printable_shown : (b : ℕ) → 32 ≤ b → b < 127 → is_acting b ≡ false
printable_shown b low high = grind (arith, nat_tests)

printable_none : (bs : List ℕ) → ArePrintable bs → NonePass is_acting bs
printable_none [] is = tt
printable_none (b ∷ bs) is = (printable_shown b is.0 is.1, printable_none bs is.2)

digit_low : (d : ℕ) → 32 ≤ digit_glyph false d
digit_low d = grind (arith, nat_tests)

digit_high : (d : ℕ) → d < 16 → digit_glyph false d < 127
digit_high d small = grind (arith, nat_tests)

-- the digits go on, or this was the last one
by_end : (P : List ℕ → Type 0) (last : Bool) (ended more : List ℕ) → P ended → P more → P (cond last ended more)
by_end P true ended more one other = one
by_end P false ended more one other = other

printable_digits_onto : (k n : ℕ) (acc : List ℕ) → ArePrintable acc → ArePrintable (digits_onto k 16 false n acc)
printable_digits_onto zero n acc is = is
printable_digits_onto (suc k) n acc is =
    let more : ArePrintable (digit_glyph false (n % 16) ∷ acc) = (digit_low (n % 16), digit_high (n % 16) (omega arith), is) in
    by_end ArePrintable (n / 16 == 0) _ _ more (printable_digits_onto k (n / 16) (digit_glyph false (n % 16) ∷ acc) more)

printable_digits : (n : ℕ) → ArePrintable (digits 16 false n)
unfolding digits
printable_digits n = printable_digits_onto 64 n [] tt

-- ---- what is printed for a character

-- the text spells characters, none of which acts
abbrev IsShown : List ℕ → Type 0
IsShown text = (cs : List ℕ) × (encodes cs ≡ text) × (scalars cs ≡ true) × NonePass is_acting cs

shown_printable : (text : List ℕ) → ArePrintable text → IsShown text
shown_printable text is = (text, encodes-IsAscii text (printable_ascii text is), printable_scalars text is, printable_none text is)

shown_number : (c : ℕ) → IsShown (92 ∷ 117 ∷ 123 ∷ (digits 16 false c ++ 125 ∷ []))
shown_number c = shown_printable _ (
  omega arith,
  omega arith,
  (
    omega arith,
    omega arith,
    (
      omega arith,
      omega arith,
      printable-append (digits 16 false c) (125 ∷ []) (printable_digits c) (omega arith, omega arith, tt),
    ),
  ),
)

shown_unlettered : (c : ℕ) → scalar c ≡ true → (acts : Bool) → is_acting c ≡ acts → IsShown (cond acts (92 ∷ 117 ∷ 123 ∷ (digits 16 false c ++ 125 ∷ [])) (encode_utf8 c))
shown_unlettered c is true acts = shown_number c
shown_unlettered c is false acts = (c ∷ [], append-nil _, and_from _ _ is refl, (acts, tt))

shown_letter : (letter : ℕ) → 32 ≤ letter → letter < 127 → IsShown (92 ∷ letter ∷ [])
shown_letter letter low high = shown_printable _ (omega arith, omega arith, (low, high, tt))

shown_char : (c : ℕ) → scalar c ≡ true → IsShown (escaped_char c)
shown_char c is = elim (cases_eq c 92) [
  | inl same ↦ rw same (shown_letter 92 (omega arith) (omega arith))
  | inr no_slash ↦ elim (cases_eq c 10) [
    | inl same ↦ rw same (shown_letter 110 (omega arith) (omega arith))
    | inr no_feed ↦ elim (cases_eq c 13) [
      | inl same ↦ rw same (shown_letter 114 (omega arith) (omega arith))
      | inr no_return ↦ elim (cases_eq c 9) [
        | inl same ↦ rw same (shown_letter 116 (omega arith) (omega arith))
        | inr no_tab ↦
            let no_letter : escape_letter c ≡ 0 = grind (arith, nat_tests) in
            subst (λ (letter : ℕ). IsShown (cond (letter == 0) (cond (is_acting c) (92 ∷ 117 ∷ 123 ∷ (digits 16 false c ++ 125 ∷ [])) (encode_utf8 c)) (92 ∷ letter ∷ [])))
            (sym no_letter) (shown_unlettered c is (is_acting c) refl)
      ]
    ]
  ]
]

-- ---- and for a text

scalars-append : (xs ys : List ℕ) → scalars xs ≡ true → scalars ys ≡ true → scalars (xs ++ ys) ≡ true
scalars-append [] ys left right = right
scalars-append (x ∷ xs) ys left right =
    let parts = and_parts _ _ left in
    and_from _ _ parts.0 (scalars-append xs ys parts.1 right)

none-append : (xs ys : List ℕ) → NonePass is_acting xs → NonePass is_acting ys → NonePass is_acting (xs ++ ys)
none-append [] ys left right = right
none-append (x ∷ xs) ys left right = (left.0, none-append xs ys left.1 right)

shown-append : (left right : List ℕ) → IsShown left → IsShown right → IsShown (left ++ right)
shown-append left right (cs, spells, are, none) (ds, told, be, few) =
    (cs ++ ds, encodes-append cs ds ∙ ap₂ (λ (a b : List ℕ). a ++ b) spells told, scalars-append cs ds are be, none-append cs ds none few)

shown_chars : (cs : List ℕ) → scalars cs ≡ true → IsShown (flat_map escaped_char cs)
shown_chars [] are = ([], refl, refl, tt)
shown_chars (c ∷ cs) are =
    let parts = and_parts _ _ are in
    shown-append (escaped_char c) (flat_map escaped_char cs) (shown_char c parts.0) (shown_chars cs parts.1)

pub escaped_texts_are_shown : EscapedTextsAreShown
escaped_texts_are_shown text is =
    let (cs, spells, are, none) = shown_chars (chars text) (scalars-chars text is) in
    subst (NonePass is_acting) (sym (chars-encodes cs are) ∙ ap chars spells) none

-- ---- and for a report

-- the text spells characters, none of which acts but line feeds
abbrev AreLines : List ℕ → Type 0
AreLines text = (cs : List ℕ) × (encodes cs ≡ text) × (scalars cs ≡ true) × NonePass acts_within_a_line cs

weaker : (cs : List ℕ) → NonePass is_acting cs → NonePass acts_within_a_line cs
weaker [] none = tt
weaker (c ∷ cs) none = (ap (λ b. b && not (c == 10)) none.0, weaker cs none.1)

shown_lines : (text : List ℕ) → IsShown text → AreLines text
shown_lines text (cs, spells, are, none) = (cs, spells, are, weaker cs none)

both_lines : (xs ys : List ℕ) → NonePass acts_within_a_line xs → NonePass acts_within_a_line ys → NonePass acts_within_a_line (xs ++ ys)
both_lines [] ys left right = right
both_lines (x ∷ xs) ys left right = (left.0, both_lines xs ys left.1 right)

lines-append : (left right : List ℕ) → AreLines left → AreLines right → AreLines (left ++ right)
lines-append left right (cs, spells, are, none) (ds, told, be, few) =
    (cs ++ ds, encodes-append cs ds ∙ ap₂ (λ (a b : List ℕ). a ++ b) spells told, scalars-append cs ds are be, both_lines cs ds none few)

lines_none : AreLines []
lines_none = ([], refl, refl, tt)

line_end : AreLines (10 ∷ [])
line_end = (10 ∷ [], encodes-IsAscii (10 ∷ []) (IsAscii-cons 10 [] (omega arith) IsAscii-nil), and_from _ _ (low_scalar 10 (omega arith)) refl, (refl, tt))

lines_mark : (b : ℕ) → 32 ≤ b → b < 127 → AreLines (b ∷ [])
lines_mark b low high = shown_lines (b ∷ []) (shown_printable (b ∷ []) (low, high, tt))

lines_text : (text : List ℕ) → IsUtf8 text → AreLines (escaped_text text)
lines_text text is = shown_lines (escaped_text text) (shown_chars (chars text) (scalars-chars text is))

lines_child : (kind : Kind) (text : List ℕ) → AreLines text → AreLines (child_text kind text)
lines_child Index text are = lines-append (91 ∷ []) (text ++ 93 ∷ []) (lines_mark 91 (omega arith) (omega arith)) (lines-append text (93 ∷ []) are (lines_mark 93 (omega arith) (omega arith)))
lines_child Key text are = lines-append (46 ∷ []) text (lines_mark 46 (omega arith) (omega arith)) are
lines_child None text are = are

lines_root : (kind : Kind) (text : List ℕ) → AreLines text → AreLines (root_text kind text)
lines_root Index text are = lines_child Index text are
lines_root Key text are = are
lines_root None text are = are

lines_below : (path : List Part) → All (λ (p : Part). IsUtf8 p.text) path → AreLines (flat_map part_text (escaped_path path))
lines_below [] are = lines_none
lines_below (p ∷ ps) are = lines-append (part_text (escaped_part p)) (flat_map part_text (escaped_path ps)) (lines_child p.kind (escaped_text p.text) (lines_text p.text (All-head (λ (q : Part). IsUtf8 q.text) p ps are)))
    (lines_below ps (All-tail (λ (q : Part). IsUtf8 q.text) p ps are))

lines_path : (path : List Part) → All (λ (p : Part). IsUtf8 p.text) path → AreLines (escaped_path_text path)
lines_path [] are = lines_none
lines_path (p ∷ ps) are = lines-append (root_text p.kind (escaped_text p.text)) (flat_map part_text (escaped_path ps)) (lines_root p.kind (escaped_text p.text) (lines_text p.text (All-head (λ (q : Part). IsUtf8 q.text) p ps are)))
    (lines_below ps (All-tail (λ (q : Part). IsUtf8 q.text) p ps are))

lines_entry : (e : Entry) → IsText e → AreLines (entry_text (escaped_path e.0) (escaped_text e.1))
lines_entry e is =
    by_end AreLines (length (escaped_path e.0) == 0) (escaped_text e.1) (escaped_path_text e.0 ++ 58 ∷ 32 ∷ escaped_text e.1) (lines_text e.1 is.1)
    (lines-append (escaped_path_text e.0) (58 ∷ 32 ∷ escaped_text e.1) (lines_path e.0 is.0)
    (lines-append (58 ∷ 32 ∷ []) (escaped_text e.1) (lines-append (58 ∷ []) (32 ∷ []) (lines_mark 58 (omega arith) (omega arith)) (lines_mark 32 (omega arith) (omega arith))) (lines_text e.1 is.1)))

lines_report : (entries : List Entry) → All IsText entries → AreLines (escaped_report_text entries)
lines_report [] are = lines_none
lines_report (e ∷ es) are =
    let text = entry_text (escaped_path e.0) (escaped_text e.1) in
    lines-append (text ++ 10 ∷ []) (escaped_report_text es) (lines-append text (10 ∷ []) (lines_entry e (All-head IsText e es are)) line_end) (lines_report es (All-tail IsText e es are))

pub escaped_reports_are_shown : EscapedReportsAreShown
escaped_reports_are_shown entries are =
    let (cs, spells, real, none) = lines_report entries are in
    subst (NonePass acts_within_a_line) (sym (chars-encodes cs real) ∙ ap chars spells) none

-- ---- what is not changed

stays_char : (c : ℕ) → (is_acting c || (c == 92)) ≡ false → escaped_char c ≡ encode_utf8 c
stays_char c none =
    let no_letter : escape_letter c ≡ 0 = grind (arith, nat_tests) in
    let not_acting : is_acting c ≡ false = grind (arith, nat_tests) in
    let number = 92 ∷ 117 ∷ 123 ∷ (digits 16 false c ++ 125 ∷ []) in
    ap (λ (letter : ℕ). cond (letter == 0) (cond (is_acting c) number (encode_utf8 c)) (92 ∷ letter ∷ [])) no_letter
    ∙ ap (λ (acts : Bool). cond acts number (encode_utf8 c)) not_acting

stays_chars : (cs : List ℕ) → NonePass (λ c. is_acting c || (c == 92)) cs → flat_map escaped_char cs ≡ encodes cs
stays_chars [] none = refl
stays_chars (c ∷ cs) none = ap₂ (λ (a b : List ℕ). a ++ b) (stays_char c none.0) (stays_chars cs none.1)

pub shown_texts_stay : ShownTextsStay
shown_texts_stay text is none = stays_chars (chars text) none ∙ encodes-chars text is
