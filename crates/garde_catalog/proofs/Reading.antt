-- The pieces of a text, read place by place.
use Rattle.std.proofs.Common.{◌≡◌, ◌≢◌, ◌++◌, ◌∷◌, ◌∙◌, ◌<◌, ℕ, List, [], All, Bool, true, false, ◌||◌, ◌&&◌, IsTrue, Some, bytes_eq, cond, length, map, get_or, drop, refl, sym, ap, subst, append_assoc, append-nil, length-append, ne_eqb, arith}
use Rattle.std.specs.List.{list_any, list_all}
use Rattle.std.proofs.lemmas.Grind.{flat_map-append}
use Rattle.std.proofs.lemmas.List.{append_cancel_left}
use Rattle.std.proofs.lemmas.List.Elements.{All-append, All-cons, All-from_get_or, All-head, All-map, All-nil, All-tail, All-weaker}
use Rattle.garde_catalog.specs.Template.{HasPlaces, IsAllSeen, IsCut, IsPlain, IsPlainByte, IsPlainPiece, IsRefused, IsSeen, IsTemplate, Piece, byte, place, filled, has_place, in_braces, is_known, is_param, is_place, pieces_of, reading, written}
use Rattle.garde_catalog.specs.declared.template.Seen.{Seen}

-- no byte of the text is this one
abbrev pub Free : ℕ → List ℕ → Type 0
Free c text = All (λ b. b ≢ c) text

no_open : (text : List ℕ) → IsPlain text → Free 123 text
no_open text h = All-weaker IsPlainByte (λ b. b ≢ 123) (λ b plain. plain.0) text h

no_close : (text : List ℕ) → IsPlain text → Free 125 text
no_close text h = All-weaker IsPlainByte (λ b. b ≢ 125) (λ b plain. plain.1) text h

starts_free : (c x : ℕ) (xs : List ℕ) → Free c (x ∷ xs) → x ≢ c
starts_free c x xs h = All-head (λ b. b ≢ c) x xs h

rest_free : (c x : ℕ) (xs : List ℕ) → Free c (x ∷ xs) → Free c xs
rest_free c x xs h = All-tail (λ b. b ≢ c) x xs h

-- words are pieces byte by byte
pub worded : (words rest : List ℕ) → Free 123 words → pieces_of (words ++ rest) ≡ map byte words ++ pieces_of rest
unfolding pieces_of
worded [] rest free = refl
worded (b ∷ words) rest free =
    ap (λ t. cond t (reading (Some []) (words ++ rest)) (byte b ∷ pieces_of (words ++ rest))) (ne_eqb b 123 (starts_free 123 b words free))
    ∙ ap (λ l. byte b ∷ l) (worded words rest (rest_free 123 b words free))

-- a text with no brace that opens
pub all_words : (text : List ℕ) → Free 123 text → pieces_of text ≡ map byte text
unfolding pieces_of
all_words text free = ap pieces_of (sym (append-nil text)) ∙ worded text [] free ∙ append-nil (map byte text)

-- a name ends at the first brace that closes
named : (front name rest : List ℕ) → Free 125 name → reading (Some front) (name ++ (125 ∷ rest)) ≡ place (front ++ name) ∷ pieces_of rest
unfolding pieces_of
named front [] rest free = ap (λ n. place n ∷ pieces_of rest) (sym (append-nil front))
named front (b ∷ name) rest free =
    ap (λ t. cond t (place front ∷ pieces_of (name ++ (125 ∷ rest))) (reading (Some (front ++ (b ∷ []))) (name ++ (125 ∷ rest))))
    (ne_eqb b 125 (starts_free 125 b name free))
    ∙ named (front ++ (b ∷ [])) name rest (rest_free 125 b name free)
    ∙ ap (λ n. place n ∷ pieces_of rest) (append_assoc front (b ∷ []) name)

unnamed : (front text : List ℕ) → Free 125 text → reading (Some front) text ≡ []
unfolding pieces_of
unnamed front [] free = refl
unnamed front (b ∷ text) free =
    ap (λ t. cond t (place front ∷ pieces_of text) (reading (Some (front ++ (b ∷ []))) text)) (ne_eqb b 125 (starts_free 125 b text free))
    ∙ unnamed (front ++ (b ∷ [])) text (rest_free 125 b text free)

-- a text that is cut at its first place
pub cut : (text words name after : List ℕ) → text ≡ words ++ (123 ∷ (name ++ (125 ∷ after))) → Free 123 words → Free 125 name
    → pieces_of text ≡ map byte words ++ (place name ∷ pieces_of after)
unfolding pieces_of
cut text words name after whole opens closes =
    ap pieces_of whole ∙ worded words (123 ∷ (name ++ (125 ∷ after))) opens ∙ ap (λ l. map byte words ++ l) (named [] name after closes)

-- a text whose first place does not close
pub never_closes : (text words tail : List ℕ) → text ≡ words ++ (123 ∷ tail) → Free 123 words → Free 125 tail → pieces_of text ≡ map byte words
unfolding pieces_of
never_closes text words tail whole opens closes =
    ap pieces_of whole ∙ worded words (123 ∷ tail) opens ∙ ap (λ l. map byte words ++ l) (unnamed [] tail closes) ∙ append-nil (map byte words)

-- the pieces that write a text are those that are read of it
pub read_back : (p : List Piece) → All IsPlainPiece p → pieces_of (written p) ≡ p
unfolding pieces_of
read_back [] plain = refl
read_back (byte b ∷ p) plain =
    ap (λ t. cond t (reading (Some []) (written p)) (byte b ∷ pieces_of (written p))) (ne_eqb b 123 (All-head IsPlainPiece (byte b) p plain).0)
    ∙ ap (λ l. byte b ∷ l) (read_back p (All-tail IsPlainPiece (byte b) p plain))
read_back (place n ∷ p) plain =
    ap (reading (Some [])) (append_assoc n (125 ∷ []) (written p)) ∙ named [] n (written p) (no_close n (All-head IsPlainPiece (place n) p plain))
    ∙ ap (λ l. place n ∷ l) (read_back p (All-tail IsPlainPiece (place n) p plain))

-- ---- what stands in the places

filled_words : (value : List ℕ → List ℕ) (words : List ℕ) → filled value (map byte words) ≡ words
filled_words value [] = refl
filled_words value (b ∷ words) = ap (λ l. b ∷ l) (filled_words value words)

pub filled_rest : (value : List ℕ → List ℕ) (rest : List ℕ) → Free 123 rest → filled value (pieces_of rest) ≡ rest
filled_rest value rest free = ap (filled value) (all_words rest free) ∙ filled_words value rest

-- where nothing is left, nothing is put behind what there is
pub filled_nothing : (value : List ℕ → List ℕ) (whole rest : List ℕ) → rest ≡ [] → whole ≡ whole ++ filled value (pieces_of rest)
unfolding pieces_of
filled_nothing value whole rest e = sym (ap (λ l. whole ++ filled value (pieces_of l)) e ∙ append-nil whole)

pub filled_unclosed : (value : List ℕ → List ℕ) (text words tail : List ℕ) → text ≡ words ++ (123 ∷ tail) → Free 123 words → Free 125 tail
    → filled value (pieces_of text) ≡ words
filled_unclosed value text words tail whole opens closes =
    ap (filled value) (never_closes text words tail whole opens closes) ∙ filled_words value words

pub filled_cut : (value : List ℕ → List ℕ) (text words name after : List ℕ) → text ≡ words ++ (123 ∷ (name ++ (125 ∷ after)))
    → Free 123 words → Free 125 name → filled value (pieces_of text) ≡ words ++ (value name ++ filled value (pieces_of after))
filled_cut value text words name after whole opens closes =
    ap (filled value) (cut text words name after whole opens closes)
    ∙ flat_map-append _ (map byte words) (place name ∷ pieces_of after)
    ∙ ap (λ l. l ++ (value name ++ filled value (pieces_of after))) (filled_words value words)

-- a place is filled, with the words before it
pub filled_more : (value : List ℕ → List ℕ) (text rest words tail name after whole mid new : List ℕ) → rest ≡ words ++ (123 ∷ tail) → Free 123 words
    → tail ≡ name ++ (125 ∷ after) → Free 125 name → mid ≡ whole ++ words → new ≡ mid ++ value name
    → whole ++ filled value (pieces_of rest) ≡ filled value (pieces_of text) → new ++ filled value (pieces_of after) ≡ filled value (pieces_of text)
filled_more value text rest words tail name after whole mid new one opens two closes m n so_far =
    let left = filled value (pieces_of after) in
    ap (λ l. l ++ left) (n ∙ ap (λ l. l ++ value name) m) ∙ append_assoc (whole ++ words) (value name) left ∙ append_assoc whole words (value name ++ left)
    ∙ ap (λ l. whole ++ l) (sym (filled_cut value rest words name after (one ∙ ap (λ l. words ++ (123 ∷ l)) two) opens closes)) ∙ so_far

-- ---- whether each brace is one of a place

plain_words : (words : List ℕ) → IsPlain words → All IsPlainPiece (map byte words)
plain_words words h = All-map IsPlainPiece byte words h

words_plain : (words : List ℕ) → All IsPlainPiece (map byte words) → IsPlain words
words_plain [] h = All-nil IsPlainByte
words_plain (b ∷ words) h =
    All-cons IsPlainByte b words (All-head IsPlainPiece (byte b) (map byte words) h) (words_plain words (All-tail IsPlainPiece (byte b) (map byte words) h))

all_front : (xs ys : List Piece) → All IsPlainPiece (xs ++ ys) → All IsPlainPiece xs
all_front [] ys h = All-nil IsPlainPiece
all_front (x ∷ xs) ys h =
    All-cons IsPlainPiece x xs (All-head IsPlainPiece x (xs ++ ys) h) (all_front xs ys (All-tail IsPlainPiece x (xs ++ ys) h))

all_back : (xs ys : List Piece) → All IsPlainPiece (xs ++ ys) → All IsPlainPiece ys
all_back [] ys h = h
all_back (x ∷ xs) ys h = all_back xs ys (All-tail IsPlainPiece x (xs ++ ys) h)

-- a text with no brace
pub has_none : (rest : List ℕ) → IsPlain rest → HasPlaces rest
has_none rest h =
    let e = all_words rest (no_open rest h) in
    (ap written e ∙ filled_words in_braces rest, subst (All IsPlainPiece) (sym e) (plain_words rest h))

cut_at : (text words name after : List ℕ) → IsCut text words name after → pieces_of text ≡ map byte words ++ (place name ∷ pieces_of after)
cut_at text words name after c = cut text words name after c.whole (no_open words c.words_plain) (no_close name c.name_plain)

written_cut : (text words name after : List ℕ) → IsCut text words name after → written (pieces_of text) ≡ words ++ (in_braces name ++ written (pieces_of after))
written_cut text words name after c = filled_cut in_braces text words name after c.whole (no_open words c.words_plain) (no_close name c.name_plain)

-- a text has its places where what stands behind its first one has
pub has_more : (text words name after : List ℕ) → IsCut text words name after → HasPlaces after → HasPlaces text
has_more text words name after c h = (
  written_cut text words name after c ∙ ap (λ l. words ++ (in_braces name ++ l)) h.0
      ∙ ap (λ l. words ++ (123 ∷ l)) (append_assoc name (125 ∷ []) after) ∙ sym c.whole,
  subst (All IsPlainPiece) (sym (cut_at text words name after c))
      (All-append IsPlainPiece (map byte words) (place name ∷ pieces_of after) (plain_words words c.words_plain)
      (All-cons IsPlainPiece (place name) (pieces_of after) c.name_plain h.1)),
)

-- and only there
pub has_fewer : (text words name after : List ℕ) → IsCut text words name after → HasPlaces text → HasPlaces after
has_fewer text words name after c h =
    let w = written (pieces_of after) in
    let one = append_cancel_left words (in_braces name ++ w) (123 ∷ (name ++ (125 ∷ after))) (sym (written_cut text words name after c) ∙ h.0 ∙ c.whole) in
    let two = append_cancel_left name (125 ∷ w) (125 ∷ after) (sym (append_assoc name (125 ∷ []) w) ∙ ap (drop 1) one) in (
      ap (drop 1) two,
      All-tail IsPlainPiece (place name) (pieces_of after)
          (all_back (map byte words) (place name ∷ pieces_of after) (subst (All IsPlainPiece) (cut_at text words name after c) h.1)),
    )

-- by places, as the search of a text says it
pub free_by_place : (c : ℕ) (text : List ℕ) → ((i : ℕ) → i < length text → get_or text i 0 ≢ c) → Free c text
free_by_place c text h = All-from_get_or (λ b. b ≢ c) text 0 h

pub plain_by_both : (text : List ℕ) → Free 123 text → Free 125 text → IsPlain text
plain_by_both text opens closes = All-from_get_or IsPlainByte text 0 (λ i low. (opens i 0 low, closes i 0 low))

abbrev pub Has : ℕ → List ℕ → Type 0
Has c text = (k : ℕ) × (k < length text) × (get_or text k 0 ≡ c)

has_not : (c : ℕ) (text : List ℕ) → Has c text → Free c text → ⊥
has_not c text h free = free h.0 0 h.1 h.2

-- it has no opening brace, and a closing one
pub closed_only : (text : List ℕ) → Free 123 text → Has 125 text → ¬ (HasPlaces text)
closed_only text free closed h =
    has_not 125 text closed (no_close text (words_plain text (subst (All IsPlainPiece) (all_words text free) h.1)))

-- one closes before the first opens
pub closed_before : (text words tail : List ℕ) → text ≡ words ++ (123 ∷ tail) → Free 123 words → Has 125 words → ¬ (HasPlaces text)
unfolding pieces_of
closed_before text words tail whole free closed h =
    let e = ap pieces_of whole ∙ worded words (123 ∷ tail) free in
    has_not 125 words closed
    (no_close words (words_plain words (all_front (map byte words) (reading (Some []) tail) (subst (All IsPlainPiece) e h.1))))

-- the first that opens does not close
pub never_closed : (text words tail : List ℕ) → text ≡ words ++ (123 ∷ tail) → Free 123 words → Free 125 tail → ¬ (HasPlaces text)
never_closed text words tail whole free unshut h =
    omega (arith, ap length (sym (filled_unclosed in_braces text words tail whole free unshut) ∙ h.0 ∙ whole), length-append words (123 ∷ tail))

-- another opens in the place
pub opened_twice : (text words tail name after : List ℕ) → text ≡ words ++ (123 ∷ tail) → Free 123 words → tail ≡ name ++ (125 ∷ after) → Free 125 name → Has 123 name
    → ¬ (HasPlaces text)
opened_twice text words tail name after whole free shut closes opens h =
    let e = cut text words name after (whole ∙ ap (λ l. words ++ (123 ∷ l)) shut) free closes in
    has_not 123 name opens
    (no_open name (All-head IsPlainPiece (place name) (pieces_of after)
    (all_back (map byte words) (place name ∷ pieces_of after) (subst (All IsPlainPiece) e h.1))))

-- ---- what is seen of the places

and_both : (a b c : Bool) → (a && (b && c)) ≡ ((a && b) && c)
and_both true b c = refl
and_both false b c = refl

or_both : (a b c : Bool) → (a || (b || c)) ≡ ((a || b) || c)
or_both true b c = refl
or_both false b c = refl

and_true : (a : Bool) → (a && true) ≡ a
and_true true = refl
and_true false = refl

or_false : (a : Bool) → (a || false) ≡ a
or_false true = refl
or_false false = refl

known_words : (first second words : List ℕ) (p : List Piece) → list_all (is_known first second) (map byte words ++ p) ≡ list_all (is_known first second) p
known_words first second [] p = refl
known_words first second (b ∷ words) p = known_words first second words p

no_places : (wanted words : List ℕ) (p : List Piece) → list_any (is_place wanted) (map byte words ++ p) ≡ list_any (is_place wanted) p
no_places wanted [] p = refl
no_places wanted (b ∷ words) p = no_places wanted words p

-- nothing is seen yet
pub none_seen : (first second text : List ℕ) (seen : Seen) → seen.all_known ≡ true → seen.has_first ≡ bytes_eq first [] → seen.has_second ≡ bytes_eq second []
    → IsSeen first second text text seen
none_seen first second text seen k f s = record {
  known = sym (ap (λ b. b && list_all (is_known first second) (pieces_of text)) k);
  first_seen = sym (ap (λ b. b || list_any (is_place first) (pieces_of text)) f);
  second_seen = sym (ap (λ b. b || list_any (is_place second) (pieces_of text)) s);
}

-- one more place is seen
pub one_more : (first second text rest words name after : List ℕ) (old new : Seen) → IsCut rest words name after → IsSeen first second text rest old
    → new.all_known ≡ (old.all_known && is_param first second name) → new.has_first ≡ (old.has_first || bytes_eq name first)
    → new.has_second ≡ (old.has_second || bytes_eq name second) → IsSeen first second text after new
one_more first second text rest words name after old new c seen k f s =
    let e = cut_at rest words name after c in
    let p = pieces_of after in
    record {
      known = seen.known ∙ ap (λ b. old.all_known && b) (ap (list_all (is_known first second)) e ∙ known_words first second words (place name ∷ p))
          ∙ and_both old.all_known (is_param first second name) (list_all (is_known first second) p)
          ∙ sym (ap (λ b. b && list_all (is_known first second) p) k);
      first_seen = seen.first_seen ∙ ap (λ b. old.has_first || b) (ap (list_any (is_place first)) e ∙ no_places first words (place name ∷ p))
          ∙ or_both old.has_first (bytes_eq name first) (list_any (is_place first) p)
          ∙ sym (ap (λ b. b || list_any (is_place first) p) f);
      second_seen = seen.second_seen ∙ ap (λ b. old.has_second || b) (ap (list_any (is_place second)) e ∙ no_places second words (place name ∷ p))
          ∙ or_both old.has_second (bytes_eq name second) (list_any (is_place second) p)
          ∙ sym (ap (λ b. b || list_any (is_place second) p) s);
    }

-- the rest has no place
pub all_seen : (first second text rest : List ℕ) (seen : Seen) → IsPlain rest → IsSeen first second text rest seen → IsAllSeen first second text seen
all_seen first second text rest seen plain s =
    let e = all_words rest (no_open rest plain) ∙ sym (append-nil (map byte rest)) in
    record {
      known = sym (s.known ∙ ap (λ b. seen.all_known && b) (ap (list_all (is_known first second)) e ∙ known_words first second rest []) ∙ and_true seen.all_known);
      first_seen = sym (s.first_seen ∙ ap (λ b. seen.has_first || b) (ap (list_any (is_place first)) e ∙ no_places first rest []) ∙ or_false seen.has_first);
      second_seen = sym (s.second_seen ∙ ap (λ b. seen.has_second || b) (ap (list_any (is_place second)) e ∙ no_places second rest []) ∙ or_false seen.has_second);
    }

-- ---- whether the text is a template

no_both : (b : Bool) → b ≡ false → IsTrue b → ⊥
no_both b e t = cc

-- a template of a text has the pieces of the text
pub its_pieces : (text first second : List ℕ) (pieces : List Piece) → IsTemplate text first second pieces → pieces_of text ≡ pieces
its_pieces text first second pieces fits = ap pieces_of (sym fits.same) ∙ read_back pieces fits.plain

-- a brace that is none of a place
pub refused : (text first second : List ℕ) → ¬ (HasPlaces text) → IsRefused text first second
refused text first second not_there pieces fits =
    let e = its_pieces text first second pieces fits in
    not_there (ap written e ∙ fits.same, subst (All IsPlainPiece) (sym e) fits.plain)

-- a place of no parameter
pub unknown : (text first second : List ℕ) → list_all (is_known first second) (pieces_of text) ≡ false → IsRefused text first second
unknown text first second off pieces fits =
    no_both (list_all (is_known first second) pieces) (ap (list_all (is_known first second)) (sym (its_pieces text first second pieces fits)) ∙ off) fits.known

-- a parameter without a place
pub no_first : (text first second : List ℕ) → has_place first (pieces_of text) ≡ false → IsRefused text first second
no_first text first second off pieces fits =
    no_both (has_place first pieces) (ap (has_place first) (sym (its_pieces text first second pieces fits)) ∙ off) fits.has_first

pub no_second : (text first second : List ℕ) → has_place second (pieces_of text) ≡ false → IsRefused text first second
no_second text first second off pieces fits =
    no_both (has_place second pieces) (ap (has_place second) (sym (its_pieces text first second pieces fits)) ∙ off) fits.has_second
