-- Lemmas on visit trees and what they give.
use Rattle.std.proofs.Common.{◌≡◌, ℕ, Bool, true, false, ◌||◌, List, [], ◌∷◌, ◌++◌, refl, ap, sym, ◌∙◌, append_assoc}
use Rattle.std.proofs.lemmas.Bool.{true≢false}
use Rattle.garde_report.specs.Part.{Part}
use Rattle.garde_i18n.specs.Datum.{Datum}
use Rattle.garde_rules.specs.{fault_text}
use Rattle.garde.specs.Tree.{Tree, nothing, fault, under, ◌then◌, bears, flat}

-- ---- one tree after another

pub then-nothing : (t : Tree) → (t then nothing) ≡ t
then-nothing nothing = refl
then-nothing (fault f t) = ap (fault f) (then-nothing t)
then-nothing (under k s t) = ap (under k s) (then-nothing t)

pub then_assoc : (a b c : Tree) → ((a then b) then c) ≡ (a then (b then c))
then_assoc nothing b c = refl
then_assoc (fault f a) b c = ap (fault f) (then_assoc a b c)
then_assoc (under k s a) b c = ap (under k s) (then_assoc a b c)

pub flat-then : (text : Datum → List ℕ) (p : List Part) (a b : Tree) → flat text p (a then b) ≡ flat text p a ++ flat text p b
flat-then text p nothing b = refl
flat-then text p (fault f a) b = ap (λ ls. (p, fault_text text f) ∷ ls) (flat-then text p a b)
flat-then text p (under k s a) b = ap (λ ls. flat text (p ++ k ∷ []) s ++ ls) (flat-then text p a b) ∙ sym (append_assoc (flat text (p ++ k ∷ []) s) (flat text p a) (flat text p b))

-- ---- nothing is told exactly where no step bears

pub or_false : (x y : Bool) → (x || y) ≡ false → (x ≡ false) × (y ≡ false)
or_false true y e = absurd (true≢false e)
or_false false y e = (refl, e)

append_is_nil : {A : Type 0} (xs ys : List A) → xs ++ ys ≡ [] → (xs ≡ []) × (ys ≡ [])
append_is_nil [] ys e = (refl, e)
append_is_nil (x ∷ xs) ys e = cc

pub flat_of_no_fault : (text : Datum → List ℕ) (p : List Part) (t : Tree) → bears t ≡ false → flat text p t ≡ []
flat_of_no_fault text p nothing e = refl
flat_of_no_fault text p (fault f t) e = absurd (true≢false e)
flat_of_no_fault text p (under k s t) e =
    let parts = or_false (bears s) (bears t) e in
    rw (flat_of_no_fault text (p ++ k ∷ []) s parts.0) (flat_of_no_fault text p t parts.1)

pub no_fault_of_flat : (text : Datum → List ℕ) (p : List Part) (t : Tree) → flat text p t ≡ [] → bears t ≡ false
no_fault_of_flat text p nothing e = refl
no_fault_of_flat text p (fault f t) e = cc
no_fault_of_flat text p (under k s t) e =
    let parts = append_is_nil (flat text (p ++ k ∷ []) s) (flat text p t) e in
    rw (no_fault_of_flat text (p ++ k ∷ []) s parts.0) (no_fault_of_flat text p t parts.1)
