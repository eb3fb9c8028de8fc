-- No object in an object is left out.
use Rattle.std.proofs.Common.{◌≡◌, ℕ, ◌+◌, ◌<◌, List, [], ◌∷◌, Bool, Option, Some, None, refl, ap, ap₂, sym, subst, ◌∙◌}
use Rattle.std.proofs.lemmas.List.Elements.{All-nil, All-cons, All-head, All-tail}
use Rattle.std.specs.List.{All, enumerate_from}
use Rattle.json.specs.Json.{Json}
use Rattle.json.specs.Tree.{depth}
use Rattle.garde_report.specs.Part.{index_part, key_part}
use Rattle.garde.specs.Tree.{Tree}
use Rattle.garde.specs.Trees.{TreesUnder, TreesBoth, TreesEach}
use Rattle.garde.specs.Visits.{Visits, ◌and◌, under, items, may_allocate}
use Rattle.garde.specs.Nest.{child_visits}
use Rattle.garde.proofs.Author.{recursive_visits_is, child_visits_is}
use Rattle.garde_schema.specs.Forms.{FormTexts}
use Rattle.garde_schema.specs.Lists.{all_values, with_first}
use Rattle.garde_schema.specs.Nested.{below, below_value, below_visits, child_value, first_visits, last_visits, level_value, level_visits, made_of, nested_value, nested_visits, own_value, VisitsWhole, ValueWhole}
use Rattle.garde_schema.proofs.Recursion.{below_less, child_value_is, recursive_value_is}

-- ---- the value

values_same : {A B : Type 0} (f g : A → Option B) (xs : List A) → All (λ x. f x ≡ g x) xs → all_values f xs ≡ all_values g xs
values_same f g [] same = refl
values_same f g (x ∷ xs) same =
    ap₂ (λ (a : Option _) (b : Option (List _)). with_first a b) (All-head (λ y. f y ≡ g y) x xs same) (values_same f g xs (All-tail (λ y. f y ≡ g y) x xs same))

all_as : {A : Type 0} {P Q : A → Type 0} → ((x : A) → P x → Q x) → (xs : List A) → All P xs → All Q xs
all_as {P = P} {Q} each [] all = All-nil Q
all_as {P = P} {Q} each (x ∷ xs) all = All-cons Q x xs (each x (All-head P x xs all)) (all_as each xs (All-tail P x xs all))

below_same : {B : Type 0} (f g : Json → Option B) (o : Option (List Json)) → ((js : List Json) → o ≡ Some js → All (λ x. f x ≡ g x) js) → below_value f o ≡ below_value g o
below_same f g (Some js) same = values_same f g js (same js refl)
below_same f g None same = refl

pub value_whole : {A B : Type 0} (name : List ℕ) (own : Json → Option A) (builds : A → List B → B) (j : Json) → ValueWhole name own builds j
value_whole name own builds j =
    let level = level_value name (own_value own) builds in
    recursive_value_is level depth j
    ∙ ap (λ values. made_of builds (own_value own j) values)
    (below_same (child_value level depth j) (nested_value name own builds) (below name j)
    (λ js is. all_as (λ x less. child_value_is level depth j x less) js (below_less name j js is)))

-- ---- the visits

trees_same : (f g : Json → Tree → Type 0) (n : ℕ) → ((x : Json) → depth x < n → f x ≡ g x) → (k : ℕ) (xs : List Json) → All (λ x. depth x < n) xs → TreesEach index_part f (enumerate_from k xs) ≡ TreesEach index_part g (enumerate_from k xs)
trees_same f g n same k [] less = refl
trees_same f g n same k (x ∷ xs) less = λ i. TreesBoth (TreesUnder (index_part k) (same x (All-head (λ y. depth y < n) x xs less) i)) (trees_same f g n same (k + 1) xs (All-tail (λ y. depth y < n) x xs less) i)

below_trees : (name : List ℕ) (f g : Json → Visits) (n : ℕ) → ((x : Json) → depth x < n → (f x).trees ≡ (g x).trees) → (o : Option (List Json)) → ((js : List Json) → o ≡ Some js → All (λ x. depth x < n) js) → (below_visits name f o).trees ≡ (below_visits name g o).trees
unfolding under items may_allocate
below_trees name f g n same (Some js) less = λ i. TreesUnder (key_part name) (trees_same (λ x. (f x).trees) (λ x. (g x).trees) n same 0 js (less js refl) i)
below_trees name f g n same None less = refl

pub visits_whole : (name : List ℕ) (closed : Bool) (own : FormTexts → Json → Visits) (names : List ℕ → Bool) (texts : FormTexts) (j : Json) → VisitsWhole name closed own names texts j
unfolding ◌and◌
visits_whole name closed own names texts j t =
    let first = first_visits name (own texts) texts in
    let last = last_visits closed name names texts in
    let level : (Json → Visits) → Json → Visits = level_visits name first last in
    let one : (nested_visits name closed own names texts j).trees ≡ (level (child_visits level depth j) j).trees = ap (λ (a : Visits). a.trees) (recursive_visits_is level depth j) in
    let two : (below_visits name (child_visits level depth j) (below name j)).trees ≡ (below_visits name (nested_visits name closed own names texts) (below name j)).trees =
    below_trees name (child_visits level depth j) (nested_visits name closed own names texts) (depth j)
    (λ x less. ap (λ (a : Visits). a.trees) (child_visits_is level depth j x less)) (below name j) (below_less name j) in
    let all : (nested_visits name closed own names texts j).trees t ≡ TreesBoth (first j).trees (TreesBoth (below_visits name (nested_visits name closed own names texts) (below name j)).trees (last j).trees) t =
    (λ i. one i t) ∙ (λ i. TreesBoth (first j).trees (TreesBoth (two i) (last j).trees) t) in
    (λ h. subst (λ P. P) all h, λ h. subst (λ P. P) (sym all) h)
