-- A JSON text begins with no byte order mark.
use Rattle.std.proofs.Common.{◌≡◌, ℕ, Bool, true, false, List, [], ◌∷◌, Some, None, refl, sym, ap, ◌∙◌, arith}
use Rattle.std.specs.Prelude.{if◌then◌else◌}
use Rattle.json.specs.Json.{Json, document, value}
use Rattle.json.specs.Lex.{lex, punctuate}
use Rattle.json.specs.Word.{word, after_number}
use Rattle.garde_tape.specs.Input.{is_mark, without_mark}

-- no value begins with the first byte of a mark
no_value : (rest : List ℕ) → document (239 ∷ rest) ≡ None
unfolding lex punctuate value word after_number
no_value rest = refl

first_of_mark : (a b c : ℕ) → is_mark a b c ≡ true → a ≡ 239
first_of_mark a b c is = grind arith

kept : (m : Bool) (rest whole : List ℕ) → (m ≡ true → ⊥) → (if m then rest else whole) ≡ whole
kept true rest whole never = absurd (never refl)
kept false rest whole never = refl

pub json_has_no_mark : (text : List ℕ) (j : Json) → document text ≡ Some j → without_mark text ≡ text
json_has_no_mark [] j is = refl
json_has_no_mark (a ∷ []) j is = refl
json_has_no_mark (a ∷ b ∷ []) j is = refl
json_has_no_mark (a ∷ b ∷ c ∷ rest) j is =
    kept (is_mark a b c) rest (a ∷ b ∷ c ∷ rest) (λ marked.
    let first = ap (λ x. document (x ∷ b ∷ c ∷ rest)) (first_of_mark a b c marked) in
    let never : Some j ≡ None = sym is ∙ (first ∙ no_value (b ∷ c ∷ rest)) in cc)
