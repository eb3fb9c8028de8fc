-- Paths that are equal where their texts are: a text is cut where its first component ends.
use Rattle.std.proofs.Common.{◌≡◌, ℕ, suc, List, [], ◌∷◌, ◌++◌, ◌⊎◌, inl, inr, refl, sym, subst, ◌∙◌, append_assoc, arith}
use Rattle.std.specs.List.{Contains, flat_map}
use Rattle.garde_report.specs.declared.error.component.Kind.{Kind}
use Rattle.garde_report.specs.declared.error.component.Kind.TheVariants.{None, Key, Index}
use Rattle.garde_report.specs.Part.{Part}
use Rattle.garde_report.specs.Path.{child_text, root_text, part_text}
use Rattle.garde_report.specs.Plain.{IsPlain, IsPlainPath, PlainPathsDiffer}

-- no byte is one at which a component ends
abbrev IsFree : (ℕ → Type 0) → List ℕ → Type 0
IsFree Stop [] = Unit {0}
IsFree Stop (b ∷ bs) = ¬ (Stop b) × IsFree Stop bs

-- nothing is left, or the first byte is one
abbrev IsAtStop : (ℕ → Type 0) → List ℕ → Type 0
IsAtStop Stop [] = Unit {0}
IsAtStop Stop (b ∷ bs) = Stop b

-- texts that are free of stops, with what begins at a stop behind them, are equal where the whole is
cut : (Stop : ℕ → Type 0) (xs ys us vs : List ℕ) → IsFree Stop xs → IsFree Stop ys → IsAtStop Stop us → IsAtStop Stop vs → xs ++ us ≡ ys ++ vs → (xs ≡ ys) × (us ≡ vs)
cut Stop [] [] us vs f g s t e = (refl, e)
cut Stop [] (y ∷ ys) [] vs f g s t e = cc
cut Stop [] (y ∷ ys) (u ∷ us) vs f g s t e = let same : u ≡ y = cc in absurd (g.0 (subst Stop same s))
cut Stop (x ∷ xs) [] us [] f g s t e = cc
cut Stop (x ∷ xs) [] us (v ∷ vs) f g s t e = let same : v ≡ x = cc in absurd (f.0 (subst Stop same t))
cut Stop (x ∷ xs) (y ∷ ys) us vs f g s t e =
    let head : x ≡ y = cc in
    let tail : xs ++ us ≡ ys ++ vs = cc in
    let rest = cut Stop xs ys us vs f.1 g.1 s t tail in
    (cc (head, rest.0), rest.1)

-- a key ends before a dot or a bracket, and a number before its closing bracket
abbrev EndsKey : ℕ → Type 0
EndsKey b = (b ≡ 46) ⊎ (b ≡ 91)

abbrev EndsIndex : ℕ → Type 0
EndsIndex b = b ≡ 93

-- a plain key is free of the bytes that end it
free_key : (text : List ℕ) → ¬ (Contains text 46) → ¬ (Contains text 91) → IsFree EndsKey text
free_key [] dot bracket = tt
free_key (b ∷ bs) dot bracket = (
  λ h. elim h as (λ _. ⊥) [ inl e ↦ dot (0, omega arith, e) | inr e ↦ bracket (0, omega arith, e) ],
  free_key bs (λ (k, lt, is). dot (suc k, omega arith, is)) (λ (k, lt, is). bracket (suc k, omega arith, is)),
)

-- so is a plain index
free_index : (text : List ℕ) → IsPlain Index text → IsFree EndsIndex text
free_index [] bracket = tt
free_index (b ∷ bs) bracket = (
  λ e. bracket (0, omega arith, e),
  free_index bs (λ (k, lt, is). bracket (suc k, omega arith, is)),
)

-- what stands after a component begins with a dot or a bracket, if anything does
stops : (ps : List Part) → IsPlainPath ps → IsAtStop EndsKey (flat_map part_text ps)
stops [] plain = tt
stops (p ∷ ps) plain = below p.kind p.text (plain 0 p (omega arith))
  where
    below : (kind : Kind) (text : List ℕ) → IsPlain kind text → IsAtStop EndsKey (child_text kind text ++ flat_map part_text ps)
    below None text is = absurd is
    below Key text is = inl refl
    below Index text is = inr refl

-- two components are the same, and so is what stands after them
abbrev Same : Kind → Kind → List ℕ → List ℕ → List ℕ → List ℕ → Type 0
Same k l s t us vs = (k ≡ l) × (s ≡ t) × (us ≡ vs)

-- an index is cut before its closing bracket
index_apart : (s t us vs : List ℕ) → IsPlain Index s → IsPlain Index t → child_text Index s ++ us ≡ child_text Index t ++ vs → Same Index Index s t us vs
index_apart s t us vs is it e =
    let inside : (s ++ 93 ∷ []) ++ us ≡ (t ++ 93 ∷ []) ++ vs = cc in
    let both = cut EndsIndex s t (93 ∷ us) (93 ∷ vs) (free_index s is) (free_index t it) refl refl
    (sym (append_assoc s (93 ∷ []) us) ∙ inside ∙ append_assoc t (93 ∷ []) vs) in
    let after : 93 ∷ us ≡ 93 ∷ vs = both.1 in
    (refl, both.0, cc)

-- a key is cut before a dot or an opening bracket
key_apart : (s t us vs : List ℕ) → IsPlain Key s → IsPlain Key t → IsAtStop EndsKey us → IsAtStop EndsKey vs → s ++ us ≡ t ++ vs → Same Key Key s t us vs
key_apart s t us vs is it at_s at_t e =
    let both = cut EndsKey s t us vs (free_key s is.1 is.2) (free_key t it.1 it.2) at_s at_t e in
    (refl, both.0, both.1)

tails : (b : ℕ) (us vs : List ℕ) → b ∷ us ≡ b ∷ vs → us ≡ vs
tails b us vs e = cc

heads_differ : (b c : ℕ) (us vs : List ℕ) → ¬ (b ≡ c) → b ∷ us ≡ c ∷ vs → ⊥
heads_differ b c us vs differ e = let same : b ≡ c = cc in differ same

dot_is_no_bracket : (us vs : List ℕ) → 46 ∷ us ≡ 91 ∷ vs → ⊥
dot_is_no_bracket us vs e = heads_differ 46 91 us vs (λ same. omega arith) e

-- components under others are the same where what they print is
below_apart : (k l : Kind) (s t us vs : List ℕ) → IsPlain k s → IsPlain l t → IsAtStop EndsKey us → IsAtStop EndsKey vs → child_text k s ++ us ≡ child_text l t ++ vs → Same k l s t us vs
below_apart None l s t us vs is it at_s at_t e = absurd is
below_apart Key None s t us vs is it at_s at_t e = absurd it
below_apart Index None s t us vs is it at_s at_t e = absurd it
below_apart Key Key s t us vs is it at_s at_t e = key_apart s t us vs is it at_s at_t (tails 46 (s ++ us) (t ++ vs) e)
below_apart Key Index s t us vs is it at_s at_t e = absurd (dot_is_no_bracket _ _ e)
below_apart Index Key s t us vs is it at_s at_t e = absurd (dot_is_no_bracket _ _ (sym e))
below_apart Index Index s t us vs is it at_s at_t e = index_apart s t us vs is it e

-- a key at the root does not begin as an index does
key_is_no_index : (s us vs : List ℕ) → IsPlain Key s → s ++ us ≡ 91 ∷ vs → ⊥
key_is_no_index [] us vs is e = omega (arith, is.0)
key_is_no_index (b ∷ bs) us vs is e = let same : b ≡ 91 = cc in is.2 (0, omega arith, same)

-- components at the root are the same where what they print is
root_apart : (k l : Kind) (s t us vs : List ℕ) → IsPlain k s → IsPlain l t → IsAtStop EndsKey us → IsAtStop EndsKey vs → root_text k s ++ us ≡ root_text l t ++ vs → Same k l s t us vs
root_apart None l s t us vs is it at_s at_t e = absurd is
root_apart Key None s t us vs is it at_s at_t e = absurd it
root_apart Index None s t us vs is it at_s at_t e = absurd it
root_apart Key Key s t us vs is it at_s at_t e = key_apart s t us vs is it at_s at_t e
root_apart Key Index s t us vs is it at_s at_t e = absurd (key_is_no_index s us _ is e)
root_apart Index Key s t us vs is it at_s at_t e = absurd (key_is_no_index t vs _ it (sym e))
root_apart Index Index s t us vs is it at_s at_t e = index_apart s t us vs is it e

-- a plain component prints something
below_filled : (k : Kind) (s us : List ℕ) → IsPlain k s → [] ≡ child_text k s ++ us → ⊥
below_filled None s us is e = is
below_filled Key s us is e = cc
below_filled Index s us is e = cc

root_filled : (k : Kind) (s us : List ℕ) → IsPlain k s → [] ≡ root_text k s ++ us → ⊥
root_filled None s us is e = is
root_filled Key [] us is e = omega (arith, is.0)
root_filled Key (b ∷ bs) us is e = cc
root_filled Index s us is e = cc

plain_rest : (p : Part) (ps : List Part) → IsPlainPath (p ∷ ps) → IsPlainPath ps
plain_rest p ps plain = λ k d lt. plain (suc k) d (omega arith)

same_part : (p q : Part) → p.kind ≡ q.kind → p.text ≡ q.text → p ≡ q
same_part p q k t = λ i. record { kind = k i; text = t i }

-- the components under the first are the same where what they print is
rest_apart : (ps qs : List Part) → IsPlainPath ps → IsPlainPath qs → flat_map part_text ps ≡ flat_map part_text qs → ps ≡ qs
rest_apart [] [] plain clear e = refl
rest_apart [] (q ∷ qs) plain clear e = absurd (below_filled q.kind q.text (flat_map part_text qs) (clear 0 q (omega arith)) e)
rest_apart (p ∷ ps) [] plain clear e = absurd (below_filled p.kind p.text (flat_map part_text ps) (plain 0 p (omega arith)) (sym e))
rest_apart (p ∷ ps) (q ∷ qs) plain clear e =
    let ps_plain = plain_rest p ps plain in
    let qs_plain = plain_rest q qs clear in
    let (k, t, after) = below_apart p.kind q.kind p.text q.text (flat_map part_text ps) (flat_map part_text qs)
    (plain 0 p (omega arith)) (clear 0 q (omega arith)) (stops ps ps_plain) (stops qs qs_plain) e in
    let head : p ≡ q = same_part p q k t in
    let tail : ps ≡ qs = rest_apart ps qs ps_plain qs_plain after in
    cc (head, tail)

pub plain_paths_differ : PlainPathsDiffer
plain_paths_differ [] [] plain clear e = refl
plain_paths_differ [] (q ∷ qs) plain clear e = absurd (root_filled q.kind q.text (flat_map part_text qs) (clear 0 q (omega arith)) e)
plain_paths_differ (p ∷ ps) [] plain clear e = absurd (root_filled p.kind p.text (flat_map part_text ps) (plain 0 p (omega arith)) (sym e))
plain_paths_differ (p ∷ ps) (q ∷ qs) plain clear e =
    let ps_plain = plain_rest p ps plain in
    let qs_plain = plain_rest q qs clear in
    let (k, t, after) = root_apart p.kind q.kind p.text q.text (flat_map part_text ps) (flat_map part_text qs)
    (plain 0 p (omega arith)) (clear 0 q (omega arith)) (stops ps ps_plain) (stops qs qs_plain) e in
    let head : p ≡ q = same_part p q k t in
    let tail : ps ≡ qs = rest_apart ps qs ps_plain qs_plain after in
    cc (head, tail)
