-- Texts of one character.
use Rattle.std.proofs.Common.{◌≡◌, ℕ, Bool, true, false, List, [], ◌∷◌, Some, None, refl, sym, ap, ◌∙◌}
use Rattle.std.specs.Prelude.{◌≢◌, ◌&&◌, IsUtf8, chars, encode_utf8_all}
use Rattle.std.specs.Char.{encode_utf8, IsScalar}
use Rattle.std.specs.Str.{all_scalars}
use Rattle.std.proofs.lemmas.List.{append-nil}
use Rattle.std.proofs.lemmas.Str.{chars-nil, chars_past_char, encodes-chars, scalars-chars}
use Rattle.garde_form.specs.Texts.{sole, character_text}

pub character_some : (text : List ℕ) (c : ℕ) → IsUtf8 text → text ≡ encode_utf8 c → Some c ≡ character_text text
character_some text c utf8 is = ap sole (ap (λ (cs : List ℕ). c ∷ cs) (sym chars-nil) ∙ sym (chars_past_char text [] c utf8 (is ∙ sym (append-nil (encode_utf8 c)))))

and_true : (b : Bool) → (b && true) ≡ true → b ≡ true
and_true true is = refl
and_true false is = is

-- a text that no character writes
pub character_none : (text : List ℕ) → IsUtf8 text → ((c : ℕ) → IsScalar c → text ≢ encode_utf8 c) → None ≡ character_text text
character_none text utf8 never = by_chars (chars text) (encodes-chars text utf8) (scalars-chars text utf8)
  where
    by_chars : (cs : List ℕ) → encode_utf8_all cs ≡ text → all_scalars cs ≡ true → None ≡ sole cs
    by_chars [] is scalars = refl
    by_chars (c ∷ []) is scalars = absurd (never c (and_true _ scalars) (sym is ∙ append-nil (encode_utf8 c)))
    by_chars (c ∷ d ∷ cs) is scalars = refl
