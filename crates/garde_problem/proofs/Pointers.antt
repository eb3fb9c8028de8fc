-- Pointers are read as they were written.
use Rattle.std.proofs.Common.{◌≡◌, ℕ, suc, ◌<◌, false, List, [], ◌∷◌, ◌++◌, length, get_or, Some, inl, inr, refl, sym, ap, ap₂, ◌∙◌, arith, append_assoc, append-nil}
use Rattle.std.specs.Option.{option_map}
use Rattle.std.specs.Char.{encode_utf8}
use Rattle.std.specs.Str.{encode_utf8_all}
use Rattle.std.proofs.lemmas.Bool.{cases_eq}
use Rattle.std.proofs.lemmas.Bool.Decides.{nat_tests}
use Rattle.std.proofs.lemmas.Grind.{flat_map-append}
use Rattle.std.proofs.lemmas.Str.{encodes-append, inside_one}
use Rattle.garde_problem.specs.Pointer.{token_byte, token, pointer, part_texts, path_pointer, with_byte, texts_from, pointer_texts}
use Rattle.garde_problem.specs.Laws.{PointersAreRead, PointersDiffer}

-- what stands for a byte is read as that byte
byte_read : (b : ℕ) (bs : List ℕ) → texts_from false (token_byte b ++ bs) ≡ option_map (with_byte b) (texts_from false bs)
byte_read b bs = elim (cases_eq b 126) [
  | inl tilde ↦ rw tilde refl
  | inr other ↦ elim (cases_eq b 47) [
    | inl slash ↦ rw slash refl
    | inr plain ↦ grind (arith, nat_tests)
  ]
]

-- a token is read up to its end, and then the rest
token_read : (text : List ℕ) (texts : List (List ℕ)) → texts_from false (token text ++ pointer texts) ≡ Some (text ∷ texts)
token_read [] [] = refl
token_read [] (text ∷ texts) = ap (option_map (λ ts. [] ∷ ts)) (token_read text texts)
token_read (b ∷ bs) texts =
    ap (texts_from false) (append_assoc (token_byte b) (token bs) (pointer texts))
    ∙ byte_read b (token bs ++ pointer texts)
    ∙ ap (option_map (with_byte b)) (token_read bs texts)

texts_read : (texts : List (List ℕ)) → pointer_texts (pointer texts) ≡ Some texts
texts_read [] = refl
texts_read (text ∷ texts) = token_read text texts

pub pointers_are_read : PointersAreRead
pointers_are_read path = texts_read (part_texts path)

pub pointers_differ : PointersDiffer
pointers_differ p q same =
    let read_p : pointer_texts (path_pointer p) ≡ Some (part_texts p) = pointers_are_read p in
    let read_q : pointer_texts (path_pointer q) ≡ Some (part_texts q) = pointers_are_read q in
    let both : Some (part_texts p) ≡ Some (part_texts q) = sym read_p ∙ ap pointer_texts same ∙ read_q in
    cc

-- ---- tokens, character by character

-- bytes other than `~` and `/` stand for themselves
plain_bytes : (xs : List ℕ) → ((k : ℕ) → k < length xs → ¬ (get_or xs k 0 ≡ 126) × ¬ (get_or xs k 0 ≡ 47)) → token xs ≡ xs
plain_bytes [] plain = refl
plain_bytes (x ∷ xs) plain =
    let here = plain 0 (omega arith) in
    let not_tilde : ¬ (x ≡ 126) = here.0 in
    let not_slash : ¬ (x ≡ 47) = here.1 in
    let one : token_byte x ≡ x ∷ [] = grind (arith, nat_tests) in
    ap₂ (λ (a b : List ℕ). a ++ b) one (plain_bytes xs (λ k below. plain (suc k) (omega arith)))

-- a character of a text whose byte is below 128 is that byte, so one that is neither `~` nor `/` stands for itself
pub plain_char : (c : ℕ) → ¬ (c ≡ 126) → ¬ (c ≡ 47) → token (encode_utf8 c) ≡ encode_utf8 c
plain_char c not_tilde not_slash = plain_bytes (encode_utf8 c) (λ k below. (
  λ tilde. not_tilde (inside_one c [] (encode_utf8 c) k (sym (append-nil _)) below (omega arith) ∙ tilde),
  λ slash. not_slash (inside_one c [] (encode_utf8 c) k (sym (append-nil _)) below (omega arith) ∙ slash),
))

-- one character more
pub more_token : (cs : List ℕ) (c : ℕ) → token (encode_utf8_all cs) ++ token (encode_utf8 c) ≡ token (encode_utf8_all (cs ++ c ∷ []))
more_token cs c = sym (
    ap token (encodes-append cs (c ∷ []) ∙ ap (λ (bs : List ℕ). encode_utf8_all cs ++ bs) (append-nil (encode_utf8 c)))
    ∙ flat_map-append token_byte (encode_utf8_all cs) (encode_utf8 c))
