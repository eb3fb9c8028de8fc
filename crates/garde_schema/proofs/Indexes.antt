-- The item at an index, step by step.
use Rattle.std.proofs.Common.{◌≡◌, ℕ, ◌-◌, Bool, true, false, List, [], ◌∷◌, refl, sym, subst}
use Rattle.std.proofs.lemmas.Bool.{true≢false, false≢true}
use Rattle.std.specs.Prelude.{◌==◌, if◌then◌else◌}
use Rattle.json.specs.Json.{Json}
use Rattle.garde_tape.specs.declared.found.Found.{Found}
use Rattle.garde_tape.specs.declared.found.Found.TheVariants.{Missing, Once}
use Rattle.garde_schema.specs.InOrder.{item_at}

first : (b : Bool) (x y : Found) → b ≡ true → x ≡ (if b then x else y)
first true x y e = refl
first false x y e = absurd (false≢true e)

second : (b : Bool) (x y : Found) → b ≡ false → y ≡ (if b then x else y)
second true x y e = absurd (true≢false e)
second false x y e = refl

-- it is the first of those that are left
pub at_first : (n : ℕ) (left : List Json) (j : Json) (js : List Json) → left ≡ j ∷ js → (n == 0) ≡ true → Once j ≡ item_at n left
unfolding item_at
at_first n left j js step is = subst (λ z. Once j ≡ item_at n z) (sym step) (first (n == 0) (Once j) (item_at (n - 1) js) is)

-- it stands behind the first
pub at_next : (n : ℕ) (left : List Json) (j : Json) (js : List Json) → left ≡ j ∷ js → (n == 0) ≡ false → item_at (n - 1) js ≡ item_at n left
unfolding item_at
at_next n left j js step is = subst (λ z. item_at (n - 1) js ≡ item_at n z) (sym step) (second (n == 0) (Once j) (item_at (n - 1) js) is)

-- none is left
pub at_end : (n : ℕ) (left : List Json) → left ≡ [] → Missing ≡ item_at n left
unfolding item_at
at_end n left step = subst (λ z. Missing ≡ item_at n z) (sym step) refl
