-- Texts within HTML are read as they were written, and end nothing.
use Rattle.std.proofs.Common.{◌≡◌, ◌==◌, ℕ, suc, ◌<◌, true, false, List, [], ◌∷◌, ◌++◌, length, get_or, Some, None, All, inl, inr, refl, sym, ap, ap₂, ◌∙◌, arith, append-nil}
use Rattle.std.specs.Char.{encode_utf8}
use Rattle.std.specs.Str.{encode_utf8_all}
use Rattle.std.proofs.lemmas.Bool.{cases_eq, true≢false}
use Rattle.std.proofs.lemmas.Bool.Decides.{nat_tests}
use Rattle.std.proofs.lemmas.Grind.{flat_map-append}
use Rattle.std.proofs.lemmas.List.Elements.{All-cons, All-nil}
use Rattle.std.proofs.lemmas.List.Splits.{slice_split_at}
use Rattle.std.proofs.lemmas.Str.{encodes-append, inside_one}
use Rattle.garde_html.specs.Html.{html_byte, html_text, is_ending, with_byte, read_from}
use Rattle.garde_html.specs.Laws.{TextsEndNothing, TextsAreRead, TextsEndAtTheirEnds}

-- ---- reading

-- what stands for a byte is read as that byte
byte_read : (b : ℕ) (bs : List ℕ) → read_from None (html_byte b ++ bs) ≡ with_byte (Some b) (read_from None bs)
byte_read b bs = elim (cases_eq b 38) [
  | inl same ↦ rw same refl
  | inr no_and ↦ elim (cases_eq b 60) [
    | inl same ↦ rw same refl
    | inr no_less ↦ elim (cases_eq b 62) [
      | inl same ↦ rw same refl
      | inr no_greater ↦ elim (cases_eq b 34) [
        | inl same ↦ rw same refl
        | inr no_quote ↦ elim (cases_eq b 39) [
          | inl same ↦ rw same refl
          | inr plain ↦ grind (arith, nat_tests)
        ]
      ]
    ]
  ]
]

pub texts_are_read : TextsAreRead
texts_are_read [] = refl
texts_are_read (b ∷ bs) = byte_read b (html_text bs) ∙ ap (with_byte (Some b)) (texts_are_read bs)

-- ---- no byte ends anything

-- none of these bytes ends anything, one by one
abbrev pub AreFree : List ℕ → Type 0
AreFree [] = Unit {0}
AreFree (b ∷ bs) = (is_ending b ≡ false) × AreFree bs

free-append : (xs ys : List ℕ) → AreFree xs → AreFree ys → AreFree (xs ++ ys)
free-append [] ys a b = b
free-append (x ∷ xs) ys a b = (a.0, free-append xs ys a.1 b)

free_byte : (b : ℕ) → AreFree (html_byte b)
free_byte b = elim (cases_eq b 38) [
  | inl same ↦ rw same (refl, (refl, (refl, (refl, (refl, tt)))))
  | inr no_and ↦ elim (cases_eq b 60) [
    | inl same ↦ rw same (refl, (refl, (refl, (refl, tt))))
    | inr no_less ↦ elim (cases_eq b 62) [
      | inl same ↦ rw same (refl, (refl, (refl, (refl, tt))))
      | inr no_greater ↦ elim (cases_eq b 34) [
        | inl same ↦ rw same (refl, (refl, (refl, (refl, (refl, (refl, tt))))))
        | inr no_quote ↦ elim (cases_eq b 39) [
          | inl same ↦ rw same (refl, (refl, (refl, (refl, (refl, tt)))))
          | inr plain ↦
              let one : html_byte b ≡ b ∷ [] = grind (arith, nat_tests) in
              let free : is_ending b ≡ false = grind (arith, nat_tests) in
              rw one (free, tt)
        ]
      ]
    ]
  ]
]

pub free_text : (text : List ℕ) → AreFree (html_text text)
free_text [] = tt
free_text (b ∷ bs) = free-append (html_byte b) (html_text bs) (free_byte b) (free_text bs)

end_nothing : (bs : List ℕ) → AreFree bs → All (λ b. is_ending b ≡ false) bs
end_nothing [] free = All-nil (λ b. is_ending b ≡ false)
end_nothing (b ∷ bs) free = All-cons (λ b. is_ending b ≡ false) b bs free.0 (end_nothing bs free.1)

pub texts_end_nothing : TextsEndNothing
texts_end_nothing text = end_nothing (html_text text) (free_text text)

-- what does not end is not the byte that does
no_stop : (b stop : ℕ) → is_ending b ≡ false → is_ending stop ≡ true → (b == stop) ≡ false
no_stop b stop free ends = elim (cases_eq b stop) [
  | inl same ↦ absurd (true≢false (sym ends ∙ ap is_ending (sym same) ∙ free))
  | inr other ↦ grind (arith, nat_tests)
]

no_stops : (stop : ℕ) (xs : List ℕ) → is_ending stop ≡ true → AreFree xs → All (λ b. (b == stop) ≡ false) xs
no_stops stop [] ends free = All-nil (λ b. (b == stop) ≡ false)
no_stops stop (x ∷ xs) ends free = All-cons (λ b. (b == stop) ≡ false) x xs (no_stop x stop free.0 ends) (no_stops stop xs ends free.1)

pub texts_end_at_their_ends : TextsEndAtTheirEnds
texts_end_at_their_ends text rest stop ends =
    let itself : (stop == stop) ≡ true = grind (arith, nat_tests) in
    slice_split_at (λ b. b == stop) (html_text text) stop rest (no_stops stop (html_text text) ends (free_text text)) itself

-- ---- character by character

-- bytes that are none of the five stand for themselves
plain_bytes : (xs : List ℕ)
    → ((k : ℕ) → k < length xs → ¬ (get_or xs k 0 ≡ 38) × ¬ (get_or xs k 0 ≡ 60) × ¬ (get_or xs k 0 ≡ 62) × ¬ (get_or xs k 0 ≡ 34) × ¬ (get_or xs k 0 ≡ 39))
    → html_text xs ≡ xs
plain_bytes [] plain = refl
plain_bytes (x ∷ xs) plain =
    let here = plain 0 (omega arith) in
    let no_and : ¬ (x ≡ 38) = here.0 in
    let no_less : ¬ (x ≡ 60) = here.1 in
    let no_greater : ¬ (x ≡ 62) = here.2 in
    let no_quote : ¬ (x ≡ 34) = here.3 in
    let no_apostrophe : ¬ (x ≡ 39) = here.4 in
    let one : html_byte x ≡ x ∷ [] = grind (arith, nat_tests) in
    ap₂ (λ (a b : List ℕ). a ++ b) one (plain_bytes xs (λ k below. plain (suc k) (omega arith)))

-- a byte of a character that is below 128 is that character
other_byte : (c stop : ℕ) → stop < 128 → ¬ (c ≡ stop) → (k : ℕ) → k < length (encode_utf8 c) → ¬ (get_or (encode_utf8 c) k 0 ≡ stop)
other_byte c stop low differs k below same =
    differs (inside_one c [] (encode_utf8 c) k (sym (append-nil _)) below (omega (arith, low, same)) ∙ same)

-- a character that is none of the five stands for itself
pub plain_char : (c : ℕ) → ¬ (c ≡ 38) → ¬ (c ≡ 60) → ¬ (c ≡ 62) → ¬ (c ≡ 34) → ¬ (c ≡ 39) → html_text (encode_utf8 c) ≡ encode_utf8 c
plain_char c no_and no_less no_greater no_quote no_apostrophe = plain_bytes (encode_utf8 c) (λ k below. (
  other_byte c 38 (omega arith) no_and k below,
  other_byte c 60 (omega arith) no_less k below,
  other_byte c 62 (omega arith) no_greater k below,
  other_byte c 34 (omega arith) no_quote k below,
  other_byte c 39 (omega arith) no_apostrophe k below,
))

-- one character more
pub more_text : (cs : List ℕ) (c : ℕ) → html_text (encode_utf8_all cs) ++ html_text (encode_utf8 c) ≡ html_text (encode_utf8_all (cs ++ c ∷ []))
more_text cs c = sym (
    ap html_text (encodes-append cs (c ∷ []) ∙ ap (λ (bs : List ℕ). encode_utf8_all cs ++ bs) (append-nil (encode_utf8 c)))
    ∙ flat_map-append html_byte (encode_utf8_all cs) (encode_utf8 c))
