-- Lemmas on visits of values that hold values of their own type.
use Rattle.std.proofs.Common.{◌≡◌, ℕ, zero, suc, ◌+◌, ◌<◌, ◌≤◌, List, [], ◌∷◌, Bool, true, false, nat_lt, ltb→lt, lt→ltb, T, Result, refl, ap, sym, subst, ◌∙◌, arith}
use Rattle.std.specs.Prelude.{codes}
use Rattle.std.specs.List.{Contains}
use denote.Param.Weighed.{most}
use Rattle.garde_i18n.specs.Datum.{Datum}
use Rattle.garde_report.specs.Part.{Part, key_part}
use Rattle.garde_report.specs.Report.{Entry}
use Rattle.garde_report.specs.Trace.{Trace}
use Rattle.garde_rules.specs.Inner.{component_items_from, component_items}
use Rattle.garde.specs.Tree.{Tree}
use Rattle.garde.specs.Trees.{TreesUnder, TreesBoth, TreesEach}
use Rattle.garde.specs.Visits.{Visits, Visited, ◌and◌, under, entries, when}
use Rattle.garde.specs.Nest.{Nest, NestLaw, nest_level, nest_visits, recursive_visits, visits_to_depth, child_visits}
use Rattle.garde.proofs.Visiting.{visited_when}

-- what is said under a condition matters where the condition holds
when_same : (b : Bool) (a c : Visits) → (b ≡ true → a ≡ c) → when b a ≡ when b c
unfolding when
when_same true a c same = same refl
when_same false a c same = refl

holds : (b : Bool) → T b → b ≡ true
holds true h = refl
holds false h = absurd h

less : (m n : ℕ) → nat_lt m n ≡ true → m < n
less m n is = ltb→lt m n (subst T (sym is) tt)

is_less : (m n : ℕ) → m < n → nat_lt m n ≡ true
is_less m n lt = holds (nat_lt m n) (lt→ltb m n lt)

-- any depth beyond the size says the same
enough : {A : Type 0} (level : (A → Visits) → A → Visits) (size : A → ℕ) (m n : ℕ) (v : A) → size v < m → size v < n → visits_to_depth level size m v ≡ visits_to_depth level size n v
unfolding visits_to_depth
enough level size zero n v more deep = absurd (omega (arith, more))
enough level size (suc m) zero v more deep = absurd (omega (arith, deep))
enough level size (suc m) (suc n) v more deep = λ i. level (λ x. when_same (nat_lt (size x) (size v)) (visits_to_depth level size m x) (visits_to_depth level size n x) (λ is. let lt = less _ _ is in enough level size m n x (omega (arith, lt, more)) (omega (arith, lt, deep))) i) v

-- the visits of a value are those of its level
pub recursive_visits_is : {A : Type 0} (level : (A → Visits) → A → Visits) (size : A → ℕ) (v : A) → recursive_visits level size v ≡ level (child_visits level size v) v
unfolding recursive_visits visits_to_depth child_visits
recursive_visits_is level size v = λ i. level (λ x. when_same (nat_lt (size x) (size v)) (visits_to_depth level size (size v) x) (recursive_visits level size x) (λ is. let lt = less _ _ is in enough level size (size v) (suc (size x)) x lt (omega arith)) i) v

-- the visits of a smaller value in this one are its own visits
pub child_visits_is : {A : Type 0} (level : (A → Visits) → A → Visits) (size : A → ℕ) (v x : A) → size x < size v → child_visits level size v x ≡ recursive_visits level size x
unfolding child_visits when
child_visits_is level size v x smaller = ap (λ b. when b (recursive_visits level size x)) (is_less _ _ smaller)

module _ {text : Datum → List ℕ} {E : Type 0} {A : Type 0} (level : (A → Visits) → A → Visits) (size : A → ℕ) where
  -- a level was visited
  pub visited_level : (v : A) {before after : Trace} {old new : List Entry} {result : Result Unit E} → Visited (level (child_visits level size v) v) text before after old new result → Visited (recursive_visits level size v) text before after old new result
  visited_level v {before} {after} {old} {new} {result} told = subst (λ a. Visited a text before after old new result) (sym (recursive_visits_is level size v)) told

  -- a value in this one was visited
  pub visited_within : (v x : A) {before after : Trace} {old new : List Entry} {result : Result Unit E} → size x < size v → Visited (recursive_visits level size x) text before after old new result → Visited (child_visits level size v x) text before after old new result
  unfolding child_visits
  visited_within v x smaller told = visited_when (nat_lt (size x) (size v)) (recursive_visits level size x) (is_less _ _ smaller) told

smaller_from : {A : Type 0} (size : A → ℕ) (place : ℕ → Part) (k : ℕ) (xs : List A) (p : Part) (x : A) → Contains (component_items_from place k xs) (p, x) → size x ≤ most size xs
smaller_from size place k [] p x (n, lt, is) = absurd (omega (arith, lt))
smaller_from size place k (y ∷ ys) p x (zero, lt, is) = let same : size y ≡ size x = ap (λ e. size e.1) is in omega (arith, same)
smaller_from size place k (y ∷ ys) p x (suc n, lt, is) = let less = smaller_from size place (k + 1) ys p x (n, omega (arith, lt), is) in omega (arith, less)

-- each of these values is at most as large as the largest of them
pub smaller_in : {A : Type 0} (size : A → ℕ) (place : ℕ → Part) (xs : List A) {p : Part} {x : A} → Contains (component_items place xs) (p, x) → size x ≤ most size xs
smaller_in size place xs {p} {x} has = smaller_from size place 0 xs p x has

-- the trees of entries are the same where those of each entry are
each_same : {A : Type 0} (f g : A → Tree → Type 0) (es : List (Part × A)) → ((k : Part) (x : A) → Contains es (k, x) → f x ≡ g x) → TreesEach (λ k. k) f es ≡ TreesEach (λ k. k) g es
each_same f g [] same = refl
each_same f g (e ∷ es) same = λ i. TreesBoth (TreesUnder e.0 (same e.0 e.1 (0, omega arith, refl) i)) (each_same f g es (λ k x (n, lt, is). same k x (suc n, omega arith, is)) i)

-- no value in a value is left out
pub nest_law : {A C : Type 0} (nest : Nest A C) → NestLaw nest
unfolding ◌and◌ under entries
nest_law {A} {C} nest v c t =
    let level : (A → Visits) → A → Visits = nest_level nest c in
    let one : (nest_visits nest v c).trees ≡ (level (child_visits level nest.size v) v).trees = ap (λ (a : Visits). a.trees) (recursive_visits_is level nest.size v) in
    let two : TreesEach (λ k. k) (λ x. (child_visits level nest.size v x).trees) (nest.children v) ≡ TreesEach (λ k. k) (λ x. (recursive_visits level nest.size x).trees) (nest.children v) =
    each_same (λ x. (child_visits level nest.size v x).trees) (λ x. (recursive_visits level nest.size x).trees) (nest.children v)
    (λ k x has. ap (λ (a : Visits). a.trees) (child_visits_is level nest.size v x (nest.smaller v k x has))) in
    let all : (nest_visits nest v c).trees t ≡ TreesBoth (nest.own v c).trees (TreesUnder (key_part (codes nest.name)) (TreesEach (λ k. k) (λ x. (recursive_visits level nest.size x).trees) (nest.children v))) t =
    (λ i. one i t) ∙ (λ i. TreesBoth (nest.own v c).trees (TreesUnder (key_part (codes nest.name)) (two i)) t) in
    (λ h. subst (λ P. P) all h, λ h. subst (λ P. P) (sym all) h)
