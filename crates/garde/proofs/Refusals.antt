-- Lemmas on why a walk may run out of memory.
use Rattle.std.proofs.Common.{◌≡◌, ℕ, ◌+◌, ◌<◌, ◌≤◌, max, false, List, [], ◌∷◌, ◌++◌, length, refl, ap, sym, subst, ◌∙◌, ◌⊎◌, inl, inr, IsTrue, arith}
use Rattle.std.specs.List.{Any}
use Rattle.garde_report.specs.Part.{Part}
use Rattle.garde_report.specs.Report.{Entry}
use Rattle.garde_report.specs.Trace.{Trace}
use Rattle.garde_i18n.specs.Datum.{Datum}
use Rattle.garde.specs.Tree.{Tree, nothing, fault, under, ◌then◌, bears, height}
use Rattle.garde.specs.Trees.{HasTree, TreesUnder, TreesBoth, TreesEach}
use Rattle.garde.specs.Walk.{Walked, MayRefuse}
use Rattle.garde.specs.Laws.{bears-then, or_parts, Any-cons, under_has_tree, each_has_tree}
use Rattle.garde.proofs.Counts.{trace_after-components}
use Rattle.garde.proofs.Walks.{WalkedUpTo}

pub height-then : (a b : Tree) → height (a then b) ≡ max (height a) (height b)
height-then nothing b = omega arith
height-then (fault f a) b = height-then a b
height-then (under k s a) b = omega (arith, height-then a b)

-- a tree with a fault, or is too high under so many components
abbrev pub IsCause : ℕ → Tree → Type 0
IsCause depth t = IsTrue (bears t) ⊎ (8 < depth + height t)

cause_then : (depth : ℕ) (a b : Tree) → IsCause depth a ⊎ IsCause depth b → IsCause depth (a then b)
cause_then depth a b (inl (inl e)) = inl (bears-then a b ∙ (or_parts (bears a) (bears b)).1 (inl e))
cause_then depth a b (inl (inr h)) = inr (omega (arith, height-then a b))
cause_then depth a b (inr (inl e)) = inl (bears-then a b ∙ (or_parts (bears a) (bears b)).1 (inr e))
cause_then depth a b (inr (inr h)) = inr (omega (arith, height-then a b))

cause_under : (depth : ℕ) (k : Part) (s : Tree) → IsCause (depth + 1) s → IsCause depth (under k s nothing)
cause_under depth k s (inl e) = inl ((or_parts (bears s) false).1 (inl e))
cause_under depth k s (inr h) = inr (omega arith)

-- no component more goes onto the trail without memory
pub refuses_under_full : {trees : Tree → Type 0} {allocates : Type 0} (k : Part) (depth : ℕ) → HasTree trees → 8 ≤ depth → MayRefuse (TreesUnder k trees) allocates depth
refuses_under_full k depth has full = inr (under k has.0 nothing, (has.0, has.1, refl), inr (omega arith))

pub refuses_under : {trees : Tree → Type 0} {allocates : Type 0} (k : Part) (depth inner : ℕ) → inner ≡ depth + 1 → MayRefuse trees allocates inner → MayRefuse (TreesUnder k trees) allocates depth
refuses_under k depth inner is (inl h) = inl h
refuses_under k depth inner is (inr (t, v, h)) = inr (under k t nothing, (t, v, refl), cause_under depth k t (subst (λ d. IsCause d t) is h))

pub refuses_first : {first second : Tree → Type 0} {a b : Type 0} (depth : ℕ) → MayRefuse first a depth → HasTree second → MayRefuse (TreesBoth first second) (a ⊎ b) depth
refuses_first depth (inl h) has = inl (inl h)
refuses_first depth (inr (t, v, h)) has = inr (t then has.0, (t, has.0, v, has.1, refl), cause_then depth t has.0 (inl h))

pub refuses_second : {first second : Tree → Type 0} {a b : Type 0} (depth : ℕ) → HasTree first → MayRefuse second b depth → MayRefuse (TreesBoth first second) (a ⊎ b) depth
refuses_second depth has (inl h) = inl (inr h)
refuses_second depth has (inr (t, v, h)) = inr (has.0 then t, (has.0, t, has.1, v, refl), cause_then depth has.0 t (inr h))

pub refuses_as : {trees others : Tree → Type 0} {allocates other : Type 0} (depth : ℕ) → ((t : Tree) → trees t → others t) → (allocates → other) → MayRefuse trees allocates depth → MayRefuse others other depth
refuses_as depth same more (inl h) = inl (more h)
refuses_as depth same more (inr (t, v, h)) = inr (t, same t v, h)

-- one of the entries does
pub refuses_entry : {K A : Type 0} (part : K → Part) (trees : A → Tree → Type 0) (allocates : A → Type 0) → ((x : A) → HasTree (trees x)) → (depth : ℕ) (done left : List (K × A)) (e : K × A) → MayRefuse (TreesUnder (part e.0) (trees e.1)) (allocates e.1) depth → MayRefuse (TreesEach part trees (done ++ e ∷ left)) (Any (λ d. allocates d.1) (done ++ e ∷ left)) depth
refuses_entry part trees allocates has depth [] left e wants =
    refuses_as depth (λ t v. v) (Any-cons (λ d. allocates d.1) e left) (refuses_first depth wants (each_has_tree part has left))
refuses_entry part trees allocates has depth (d ∷ done) left e wants =
    refuses_as depth (λ t v. v) (Any-cons (λ c. allocates c.1) d (done ++ e ∷ left)) (refuses_second depth (under_has_tree (part d.0) (has d.1)) (refuses_entry part trees allocates has depth done left e wants))

-- the next of the items that are left does
pub refuses_next : {K A : Type 0} {part : K → Part} {trees : A → Tree → Type 0} {text : Datum → List ℕ} {all rest left : List (K × A)} {e : K × A} {before after : Trace} {old new : List Entry} (allocates : A → Type 0) (depth : ℕ) → ((x : A) → HasTree (trees x)) → WalkedUpTo part trees text all rest before after old new → rest ≡ e ∷ left → MayRefuse (TreesUnder (part e.0) (trees e.1)) (allocates e.1) depth → MayRefuse (TreesEach part trees all) (Any (λ d. allocates d.1) all) depth
refuses_next {part = part} {trees} {left = left} {e} allocates depth has so_far step wants =
    subst (λ es. MayRefuse (TreesEach part trees es) (Any (λ d. allocates d.1) es) depth) (sym (so_far.split ∙ ap (λ es. so_far.done ++ es) step)) (refuses_entry part trees allocates has depth so_far.done left e wants)

-- a walk comes down to the components that were there before
pub depth_kept : {trees : Tree → Type 0} {text : Datum → List ℕ} {before after : Trace} {old new : List Entry} → Walked trees text before after old new → length after.components ≡ length before.components
depth_kept {before = before} told = ap (λ w. length w.components) told.trail ∙ ap length (trace_after-components before told.tree)
