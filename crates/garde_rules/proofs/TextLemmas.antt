-- What the tests of the rules say of a text.
use Rattle.std.proofs.Common.{◌≡◌, ◌<◌, ◌+◌, ℕ, Option, Some, is_some, get_or, slice_index, List, [], ◌∷◌, ◌++◌, length, take, drop, Bool, true, false, eqb, ltb, refl, sym, ap, ◌∙◌, arith, ⊎_elim, append-nil, None}
use Rattle.std.specs.Bool.{Decides, MatchBool}
use Rattle.std.specs.List.{All, starts_with}
use Rattle.std.specs.Str.{IsAscii, IsNotAscii}
use Rattle.std.specs.Str.Iter.{HasSubslice}
use Rattle.memchr.specs.Find.{IsFirstByte, FindsNeedle, OccursAt, is_byte}
use Rattle.std.specs.Str.Pattern.{HasMatch, FindsText}
use Rattle.std.specs.Cmp.Lexicographic.{bytes_decides}
use Rattle.std.proofs.lemmas.Bool.{or_cases, or_left, or_right, eqb-true, eq-eqb}
use Rattle.std.proofs.lemmas.Bool.Decides.{same_from_decides, Decides-ltb, Decides-by_and}
use Rattle.std.proofs.lemmas.List.{take-append-drop, drop_more, length-append, length-take, length-drop, get_or-take, get_or-drop, get_or-append-add, get_or_append_left, ext_get_or}
use Rattle.std.proofs.lemmas.Str.Ascii.{IsAscii-from_all, All-from_ascii}
use Rattle.std.proofs.lemmas.Str.Pattern.{contains_text}
use Rattle.std.proofs.Math.Seq.{get_or-append_seam, take-nil, take-append_seam}
use Rattle.garde_rules.specs.Text.{is_ascii_text, has_part}

ascii_decides : (bs : List ℕ) → Decides (is_ascii_text bs) (All (λ b. b < 128) bs)
ascii_decides = Decides-by_and (λ b. ltb b 128) (λ b. b < 128) is_ascii_text (λ b. Decides-ltb b 128) refl (λ _ _. refl)

-- std's test of ASCII says whether every byte is below 128
pub ascii_is : (r : Bool) (bs : List ℕ) → MatchBool r (IsAscii bs) (IsNotAscii bs) → r ≡ is_ascii_text bs
ascii_is true bs h = sym ((ascii_decides bs).1 (All-from_ascii bs h))
ascii_is false bs (i, h) = same_from_decides false (is_ascii_text bs)
    ((λ e. cc), (λ a. let f : IsAscii bs = IsAscii-from_all bs a in absurd (omega (arith, f i, h))))
    (ascii_decides bs)

starts_decides : (s n : List ℕ) → Decides (starts_with eqb s n) (n ≡ take (length n) s)
starts_decides s n = bytes_decides n (take (length n) s)

part_yes : (p bs : List ℕ) → has_part p bs ≡ true → HasSubslice bs p
part_yes p [] h =
    let e : p ≡ [] = (starts_decides [] p).0 h ∙ take-nil (length p) in
    ([], [], sym (append-nil p ∙ e))
part_yes p (b ∷ bs) h = ⊎_elim
    (λ k. let e = (starts_decides (b ∷ bs) p).0 k in (
      [],
      drop (length p) (b ∷ bs),
      sym (ap (λ q. q ++ drop (length p) (b ∷ bs)) e ∙ take-append-drop (length p) (b ∷ bs)),
    ))
    (λ k. let (a, c, e) = part_yes p bs k in (b ∷ a, c, ap (λ t. b ∷ t) e))
    (or_cases _ _ h)

starts_true : (p c bs : List ℕ) → bs ≡ p ++ c → starts_with eqb bs p ≡ true
starts_true p c bs e = (starts_decides bs p).1 (rw e (sym (take-append_seam p c)))

part_no : (p bs : List ℕ) → HasSubslice bs p → has_part p bs ≡ true
part_no p [] ([], c, e) = starts_true p c [] e
part_no p (b ∷ bs) ([], c, e) = or_left _ _ (starts_true p c (b ∷ bs) e)
part_no p [] (x ∷ a, c, e) = cc
part_no p (b ∷ bs) (x ∷ a, c, e) = or_right _ _ (part_no p bs (a, c, cc))

-- std's search of a pattern says whether the text has it as a part
pub part_is :
    (r : Bool) (p bs : List ℕ) → MatchBool r (HasMatch (FindsText p) bs) (FindsText p bs None) → r ≡ has_part p bs
part_is r p bs h =
    same_from_decides r (has_part p bs) (contains_text r p bs h) (part_yes p bs, part_no p bs)

-- a text has a pattern as a part where it says so
pub part_iff : (p bs : List ℕ) → (has_part p bs ≡ true → HasSubslice bs p) × (HasSubslice bs p → has_part p bs ≡ true)
part_iff p bs = (part_yes p bs, part_no p bs)

-- where a byte stands first, or nowhere, says whether the text has it
byte_yes : (k c : ℕ) (bs : List ℕ) → k < length bs → is_byte c (slice_index bs k) ≡ true → HasSubslice bs (c ∷ [])
byte_yes k c bs low is =
    let here : get_or bs k 0 ≡ c = eqb-true (get_or bs k 0) c is in
    (take k bs, drop (k + 1) bs, sym (take-append-drop k bs) ∙ ap (λ t. take k bs ++ t) (drop_more bs k 0 low ∙ ap (λ b. b ∷ drop (k + 1) bs) here))

byte_no : (c : ℕ) (bs : List ℕ) → IsFirstByte (is_byte c) bs None → HasSubslice bs (c ∷ []) → false ≡ true
byte_no c bs nowhere (a, b, e) =
    let low : length a < length bs = rw (e, length-append) (omega arith) in
    let here : slice_index bs (length a) ≡ c = rw e (get_or-append_seam a c b 0) in
    absurd (nowhere (length a) (omega arith) low (eq-eqb (slice_index bs (length a)) c here))

pub part_byte : (r : Option ℕ) (c : ℕ) (bs : List ℕ) → IsFirstByte (is_byte c) bs r → is_some r ≡ has_part (c ∷ []) bs
part_byte None c bs nowhere = same_from_decides false (has_part (c ∷ []) bs)
    ((λ e. cc), (λ sub. byte_no c bs nowhere sub))
    (part_yes (c ∷ []) bs, part_no (c ∷ []) bs)
part_byte (Some k) c bs h = sym (part_no (c ∷ []) bs (byte_yes k c bs h.0.high h.1))

pub part_first : (r : Option ℕ) (p bs : List ℕ) → length p < 2 → 0 < length p → IsFirstByte (is_byte (slice_index p 0)) bs r → is_some r ≡ has_part p bs
part_first r [] bs short some h = absurd (omega (arith, some))
part_first r (c ∷ []) bs short some h = part_byte r c bs h
part_first r (c ∷ d ∷ p) bs short some h = absurd (omega (arith, short))

-- a needle occurs at a place of a text where it is a part
occurs_part : (bs p : List ℕ) (k : ℕ) → OccursAt bs p k → HasSubslice bs p
occurs_part bs p k h =
    let m = length p in
    let room : length (take m (drop k bs)) ≡ length p = rw (length-take, length-drop) (omega (arith, h.fits)) in
    let mid : take m (drop k bs) ≡ p = ext_get_or 0 (take m (drop k bs)) p room
    (λ j low.
    let small : j < length p = rw room at low in
    rw (get_or-take, get_or-drop) (h.reads j small)) in (
      take k bs,
      drop m (drop k bs),
      sym (take-append-drop k bs) ∙ ap (λ t. take k bs ++ t) (sym (take-append-drop m (drop k bs)) ∙ ap (λ t. t ++ drop m (drop k bs)) mid),
    )

part_occurs : (bs p : List ℕ) (sub : HasSubslice bs p) → OccursAt bs p (length sub.0)
part_occurs bs p (a, b, e) = record {
  fits = rw (e, length-append, length-append) (omega arith);
  reads = λ j low. rw (e, get_or-append-add) (get_or_append_left p b 0 j low);
}

pub part_found : (r : Option ℕ) (p bs : List ℕ) → FindsNeedle bs p 0 r → is_some r ≡ has_part p bs
part_found None p bs nowhere = same_from_decides false (has_part p bs) (
  (λ e. cc),
  (λ sub.
      let at = part_occurs bs p sub in
      absurd (nowhere (length sub.0) (omega arith) (omega (arith, at.fits)) at)),
)
    (part_yes p bs, part_no p bs)
part_found (Some k) p bs h = sym (part_no p bs (occurs_part bs p k h.1))
