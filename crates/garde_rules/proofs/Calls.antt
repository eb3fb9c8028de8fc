-- Calls at each of some items, one after the other.
use Rattle.std.proofs.Common.{◌≡◌, ℕ, zero, suc, ◌+◌, ◌<◌, ◌≤◌, List, [], ◌∷◌, length, drop, Option, Some, None, Result, Ok, Err, MatchResult, refl, sym, ap, subst, ◌∙◌, arith, add-one}
use Rattle.std.specs.Prelude.{slice_get}
use Rattle.std.specs.List.{Contains}
use Rattle.std.specs.declared.alloc.AllocError.{AllocError}
use Rattle.std.specs.Result.{IsErrAnd}
use Rattle.garde_report.specs.Part.{Part}
use Rattle.garde_report.specs.Report.{Entry}
use Rattle.garde_report.specs.Trace.{Trace}
use Rattle.garde_rules.specs.Inner.{component_items_from, Answer, Visitor, Called, CalledAtEach}

-- the items from the i-th on, numbered
abbrev pub left : {A : Type 0} → (ℕ → Part) → ℕ → List A → List (Part × A)
left place i xs = component_items_from place i (drop i xs)

drop_there : {A : Type 0} (xs : List A) (i : ℕ) (x : A) → slice_get xs i ≡ Some x → drop i xs ≡ x ∷ drop (suc i) xs
drop_there [] i x e = cc
drop_there (y ∷ ys) zero x e = let same : y ≡ x = cc in ap (λ z. z ∷ ys) same
drop_there (y ∷ ys) (suc i) x e = drop_there ys i x e

pub left_step : {A : Type 0} (place : ℕ → Part) (xs : List A) (i : ℕ) (x : A) → slice_get xs i ≡ Some x → left place i xs ≡ (place i, x) ∷ left place (i + 1) xs
left_step place xs i x e =
    ap (component_items_from place i) (drop_there xs i x e) ∙ (λ j. (place i, x) ∷ component_items_from place (i + 1) (drop (sym (add-one i) j) xs))

pub is_there : {A : Type 0} (xs : List A) (i : ℕ) → i < length xs → None ≡ slice_get xs i → ⊥
is_there [] i within e = omega arith
is_there (x ∷ xs) zero within e = cc
is_there (x ∷ xs) (suc i) within e = is_there xs i (omega arith) e

-- an item stands among those with their components
contains_component_items_from : {A : Type 0} (place : ℕ → Part) (xs : List A) (i k : ℕ) (x : A) → slice_get xs i ≡ Some x → Contains (component_items_from place k xs) (place (i + k), x)
contains_component_items_from place [] i k x e = cc
contains_component_items_from place (y ∷ ys) zero k x e = subst (λ j. Contains (component_items_from place k (y ∷ ys)) (place j, x)) (omega arith) (0, omega arith, let same : y ≡ x = cc in ap (λ z. (place k, z)) same)
contains_component_items_from place (y ∷ ys) (suc i) k x e =
    let (n, lt, is) = contains_component_items_from place ys i (k + 1) x e in
    subst (λ j. Contains (component_items_from place k (y ∷ ys)) (place j, x)) (omega arith) (suc n, omega (arith, lt), is)

pub contains_component_items : {A : Type 0} (place : ℕ → Part) (xs : List A) (i : ℕ) (k : Part) (x : A) → Some x ≡ slice_get xs i → k ≡ place i → Contains (component_items_from place 0 xs) (k, x)
contains_component_items place xs i k x e at = subst (λ j. Contains (component_items_from place 0 xs) (j, x)) (sym at) (subst (λ j. Contains (component_items_from place 0 xs) (place j, x)) (omega arith) (contains_component_items_from place xs i 0 x (sym e)))

-- the first of the items was called, and others after it
pub called_more : {A : Type 0} (post : Visitor A) {es rest : List (Part × A)} (e : Part × A) (k : Part) {t t1 : Trace} {r r1 : List Entry} (answer : Answer) (t' : Trace) (r' : List Entry) → k ≡ e.0 → es ≡ e ∷ rest → Called post k e.1 t r (Ok tt) t1 r1 → CalledAtEach post rest t1 r1 answer t' r' → CalledAtEach post es t r answer t' r'
called_more post e k {t} {t1} {r} {r1} answer t' r' at step called others =
    subst (λ ds. CalledAtEach post ds t r answer t' r') (sym step)
    (Ok tt, t1, r1, subst (λ j. Called post j e.1 t r (Ok tt) t1 r1) at called, others)

-- the call at the first of the items failed
pub called_refused : {A : Type 0} (post : Visitor A) {es rest : List (Part × A)} (e : Part × A) (k : Part) {t t1 : Trace} {r r1 : List Entry} (answer : Answer) (f : AllocError) → k ≡ e.0 → es ≡ e ∷ rest → Called post k e.1 t r (Err f) t1 r1 → answer ≡ Err f → CalledAtEach post es t r answer t1 r1
called_refused post e k {t} {t1} {r} {r1} answer f at step called says =
    subst (λ ds. CalledAtEach post ds t r answer t1 r1) (sym step)
    (Err f, t1, r1, subst (λ j. Called post j e.1 t r (Err f) t1 r1) at called, (says, refl, refl))

-- the first of these is among them, and so are those after it
pub contains_first : {A : Type 0} {es rest : List (Part × A)} (e : Part × A) (k : Part) → k ≡ e.0 → es ≡ e ∷ rest → Contains es (k, e.1)
contains_first {A} e k at step = subst (λ ds. Contains {X = Part × A} ds (k, e.1)) (sym step) (0, omega arith, λ j. (sym at j, e.1))

pub contains_later : {A : Type 0} {es rest : List A} (e d : A) → es ≡ e ∷ rest → Contains rest d → Contains es d
contains_later e d step (n, lt, is) = subst (λ ds. Contains ds d) (sym step) (suc n, omega (arith, lt), is)
