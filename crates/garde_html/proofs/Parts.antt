-- A part of a text is looked for from each place on.
use Rattle.std.proofs.Common.{◌≡◌, ◌<◌, ◌+◌, ◌-◌, ℕ, Bool, true, false, ◌||◌, nat_eq, zero, suc, List, [], ◌∷◌, drop, take, length, refl, sym, ap, ◌∙◌, arith}
use Rattle.std.specs.List.{starts_with}
use Rattle.std.proofs.lemmas.List.{length-drop}
use Rattle.std.proofs.Math.Seq.{take-length}
use Rattle.garde_html.specs.Summary.{has_part}

-- a text that begins with it has it
pub found : (text part : List ℕ) (at : ℕ) → at < length text → starts_with nat_eq (drop at text) part ≡ true
    → has_part part (drop at text) ≡ true
found [] part at low is = absurd (omega (arith, low))
found (b ∷ bs) part zero low is = ap (λ (first : Bool). first || has_part part bs) is
found (b ∷ bs) part (suc at) low is = found bs part at (omega (arith, low)) is

-- what does not begin with it has it where the rest has it
behind : (text part : List ℕ) (at : ℕ) → at < length text → starts_with nat_eq (drop at text) part ≡ false
    → has_part part (drop (suc at) text) ≡ has_part part (drop at text)
behind [] part at low is = absurd (omega (arith, low))
behind (b ∷ bs) part zero low is = sym (ap (λ (first : Bool). first || has_part part bs) is)
behind (b ∷ bs) part (suc at) low is = behind bs part at (omega (arith, low)) is

-- a slice from a place on is the rest
whole : (text : List ℕ) (at : ℕ) → take (length text - at) (drop at text) ≡ drop at text
whole text at = ap (λ (n : ℕ). take n (drop at text)) (sym (length-drop at text)) ∙ take-length (drop at text)

pub passed : (text part : List ℕ) (at : ℕ) → at < length text → starts_with nat_eq (take (length text - at) (drop at text)) part ≡ false
    → has_part part (drop (at + 1) text) ≡ has_part part (drop at text)
passed text part at low is =
    let next : at + 1 ≡ suc at = omega (arith) in
    let other = ap (λ (rest : List ℕ). starts_with nat_eq rest part) (sym (whole text at)) ∙ is in
    ap (λ (n : ℕ). has_part part (drop n text)) next ∙ behind text part at low other
