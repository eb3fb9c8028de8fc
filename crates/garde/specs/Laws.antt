-- The two laws of the trees of a value: there is one, and one is without a fault exactly if that is known of the value which
-- the rules ask. Each law of what is put together follows from those of its parts.
use Rattle.std.specs.Prelude.{◌≡◌, ⊤, ℕ, zero, suc, ◌+◌, Bool, true, false, ◌||◌, List, [], ◌∷◌, Option, Some, None, IfSome, ◌↔◌, ◌⊎◌, IsTrue, refl}
use Rattle.std.specs.List.{All, Any, enumerate_from}
use Rattle.std.proofs.Common.{ap, sym, subst, ◌∙◌, inl, inr, arith}
use Rattle.std.proofs.lemmas.Bool.{true≢false}
use Rattle.std.proofs.lemmas.List.Elements.{All-cons, All-head, All-tail}
use Rattle.std.proofs.lemmas.List.Sorted.{IsPermutation-refl, IsPermutation-sym, All-permutation}
use Rattle.garde_report.specs.Part.{Part, index_part}
use Rattle.garde_rules.specs.{Fault}
use Rattle.garde.specs.Tree.{Tree, nothing, fault, under, ◌then◌, bears, found_tree}
use Rattle.garde.specs.Trees.{HasTree, Alike, TreesNothing, TreesUnder, TreesBoth, TreesEach, TreesItems, TreesOption, TreesInAnyOrder}

pub or_parts : (x y : Bool) → IsTrue (x || y) ↔ (IsTrue x ⊎ IsTrue y)
or_parts true y = (λ e. inl refl, λ h. refl)
or_parts false y = (inr, λ h. elim h as (λ _. IsTrue y) [ inl e ↦ absurd (true≢false (sym e)) | inr e ↦ e ])

pub neither_part : (x y : Bool) → ((x || y) ≡ false) ↔ ((x ≡ false) × (y ≡ false))
neither_part true y = (λ e. absurd (true≢false e), λ h. h.0)
neither_part false y = (λ e. (refl, e), λ h. h.1)

pub bears-then : (a b : Tree) → bears (a then b) ≡ (bears a || bears b)
bears-then nothing b = refl
bears-then (fault f a) b = refl
bears-then (under k s a) b = ap (λ x. bears s || x) (bears-then a b) ∙ or_assoc (bears s) (bears a) (bears b)
  where
    or_assoc : (x y z : Bool) → (x || (y || z)) ≡ ((x || y) || z)
    or_assoc true y z = refl
    or_assoc false y z = refl

-- a value with one tree
pub one_alike : (tree : Tree) → Alike (λ t. t ≡ tree) (bears tree ≡ false)
one_alike tree t is = (λ e. sym (ap bears is) ∙ e, λ e. ap bears is ∙ e)

-- the tree of what a rule found
pub found_alike : (found : Option Fault) → Alike (λ t. t ≡ found_tree found) (found ≡ None)
found_alike None t is = (λ e. refl, λ e. ap bears is)
found_alike (Some f) t is = (λ e. absurd (true≢false (sym (ap bears is) ∙ e)), λ e. cc)

-- ---- the parts that the relations are made of

pub nothing_alike : Alike TreesNothing ⊤
nothing_alike t is = (λ e. tt, λ h. ap bears is)

pub both_have_tree : {first second : Tree → Type 0} → HasTree first → HasTree second → HasTree (TreesBoth first second)
both_have_tree a b = (a.0 then b.0, (a.0, b.0, a.1, b.1, refl))

pub both_alike : {first second : Tree → Type 0} {p q : Type 0} → Alike first p → Alike second q → Alike (TreesBoth first second) (p × q)
both_alike first second t (a, b, va, vb, is) =
    let split : bears t ≡ (bears a || bears b) = ap bears is ∙ bears-then a b in
    let neither = neither_part (bears a) (bears b) in (
      λ e. let h = neither.0 (sym split ∙ e) in ((first a va).0 h.0, (second b vb).0 h.1),
      λ h. split ∙ neither.1 ((first a va).1 h.0, (second b vb).1 h.1),
    )

pub under_has_tree : {trees : Tree → Type 0} (k : Part) → HasTree trees → HasTree (TreesUnder k trees)
under_has_tree k a = (under k a.0 nothing, (a.0, a.1, refl))

pub under_alike : {trees : Tree → Type 0} {p : Type 0} (k : Part) → Alike trees p → Alike (TreesUnder k trees) p
under_alike k alike t (s, v, is) =
    let same : bears t ≡ (bears s || false) = ap bears is in
    let neither = neither_part (bears s) false in
    (λ e. (alike s v).0 (neither.0 (sym same ∙ e)).0, λ h. same ∙ neither.1 ((alike s v).1 h, refl))

-- ---- lists

pub Any-uncons : {A : Type 0} (P : A → Type 0) (x : A) (xs : List A) → Any P (x ∷ xs) → P x ⊎ Any P xs
Any-uncons P x xs (zero, y, lt, is, h) = inl (subst P (sym is) h)
Any-uncons P x xs (suc k, y, lt, is, h) = inr (k, y, omega arith, is, h)

pub Any-cons : {A : Type 0} (P : A → Type 0) (x : A) (xs : List A) → P x ⊎ Any P xs → Any P (x ∷ xs)
Any-cons P x xs (inl h) = (0, x, omega arith, refl, h)
Any-cons P x xs (inr (k, y, lt, is, h)) = (suc k, y, omega arith, is, h)

pub Any-numbered : {A : Type 0} (P : A → Type 0) (n : ℕ) (xs : List A) → Any (λ e. P e.1) (enumerate_from n xs) ↔ Any P xs
Any-numbered P n [] = (λ (k, _, lt, _, _). absurd (omega arith), λ (k, _, lt, _, _). absurd (omega arith))
Any-numbered P n (x ∷ xs) =
    let rest = Any-numbered P (n + 1) xs in (
      λ h. Any-cons P x xs (elim (Any-uncons (λ e. P e.1) (n, x) (enumerate_from (n + 1) xs) h) as (λ _. P x ⊎ Any P xs) [ inl f ↦ inl f | inr f ↦ inr (rest.0 f) ]),
      λ h. Any-cons (λ e. P e.1) (n, x) (enumerate_from (n + 1) xs) (elim (Any-uncons P x xs h) as (λ _. P x ⊎ Any (λ e. P e.1) (enumerate_from (n + 1) xs)) [ inl f ↦ inl f | inr f ↦ inr (rest.1 f) ]),
    )

pub All-numbered : {A : Type 0} (P : A → Type 0) (n : ℕ) (xs : List A) → All (λ e. P e.1) (enumerate_from n xs) ↔ All P xs
All-numbered P n [] = (λ all k d within. absurd (omega (arith, within)), λ all k d within. absurd (omega (arith, within)))
All-numbered P n (x ∷ xs) =
    let rest = All-numbered P (n + 1) xs in
    let left = enumerate_from (n + 1) xs in (
      λ all. All-cons P x xs (All-head (λ e. P e.1) (n, x) left all) (rest.0 (All-tail (λ e. P e.1) (n, x) left all)),
      λ all. All-cons (λ e. P e.1) (n, x) left (All-head P x xs all) (rest.1 (All-tail P x xs all)),
    )

-- ---- what holds other values

pub option_has_tree : {A : Type 0} {trees : A → Tree → Type 0} → ((x : A) → HasTree (trees x)) → (o : Option A) → HasTree (TreesOption trees o)
option_has_tree has None = (nothing, refl)
option_has_tree has (Some x) = has x

pub option_alike : {A : Type 0} {trees : A → Tree → Type 0} {known : A → Type 0} → ((x : A) → Alike (trees x) (known x)) → (o : Option A) → Alike (TreesOption trees o) (IfSome o known)
option_alike alike None = nothing_alike
option_alike alike (Some x) = alike x

pub each_has_tree : {K A : Type 0} {trees : A → Tree → Type 0} (part : K → Part) → ((x : A) → HasTree (trees x)) → (es : List (K × A)) → HasTree (TreesEach part trees es)
each_has_tree part has [] = (nothing, refl)
each_has_tree part has (e ∷ es) = both_have_tree (under_has_tree (part e.0) (has e.1)) (each_has_tree part has es)

pub each_alike : {K A : Type 0} {trees : A → Tree → Type 0} {known : A → Type 0} (part : K → Part) → ((x : A) → Alike (trees x) (known x)) → (es : List (K × A)) → Alike (TreesEach part trees es) (All (λ e. known e.1) es)
each_alike part alike [] t v = (λ e k d within. absurd (omega (arith, within)), λ all. ap bears v)
each_alike {known = known} part alike (e ∷ es) t v =
    let both = both_alike (under_alike (part e.0) (alike e.1)) (each_alike part alike es) t v in (
      λ h. All-cons (λ d. known d.1) e es (both.0 h).0 (both.0 h).1,
      λ all. both.1 (All-head (λ d. known d.1) e es all, All-tail (λ d. known d.1) e es all),
    )

-- the items in order, each under its index
pub items_have_tree : {A : Type 0} {trees : A → Tree → Type 0} → ((x : A) → HasTree (trees x)) → (xs : List A) → HasTree (TreesItems trees xs)
items_have_tree has xs = each_has_tree index_part has (enumerate_from 0 xs)

pub items_alike : {A : Type 0} {trees : A → Tree → Type 0} {known : A → Type 0} → ((x : A) → Alike (trees x) (known x)) → (xs : List A) → Alike (TreesItems trees xs) (All known xs)
items_alike {known = known} alike xs t v =
    let each = each_alike index_part alike (enumerate_from 0 xs) t v in
    let same = All-numbered known 0 xs in
    (λ e. same.0 (each.0 e), λ h. each.1 (same.1 h))

-- ---- any order

pub any_order_has_tree : {A : Type 0} {trees : List A → Tree → Type 0} → ((xs : List A) → HasTree (trees xs)) → (xs : List A) → HasTree (TreesInAnyOrder trees xs)
any_order_has_tree has xs = ((has xs).0, (xs, IsPermutation-refl xs, (has xs).1))

pub any_order_alike : {A : Type 0} {trees : List A → Tree → Type 0} (known : A → Type 0) → ((xs : List A) → Alike (trees xs) (All known xs)) → (xs : List A) → Alike (TreesInAnyOrder trees xs) (All known xs)
any_order_alike known alike xs t (ys, moved, v) =
    let same = alike ys t v in
    (λ e. All-permutation known ys xs (IsPermutation-sym xs ys moved) (same.0 e), λ h. same.1 (All-permutation known xs ys moved h))
