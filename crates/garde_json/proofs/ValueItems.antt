-- The items of an array against the trees of a list.
use Rattle.std.proofs.Common.{◌≡◌, ◌≢◌, ℕ, zero, suc, ◌<◌, ◌≤◌, ◌+◌, Some, List, [], ◌∷◌, ◌++◌, length, get_or, map, take, refl, sym, ap, ◌∙◌, arith}
use Rattle.std.proofs.lemmas.List.{map-append, map_more, take_all}
use Rattle.serde_json.specs.Data.{Data, null, boolean, number, string, array, object, Items, item, no_items, member, no_members}
use Rattle.serde_json.specs.Find.{as_array}
use Rattle.serde_json.specs.View.{view, items_view, items_of}
use Rattle.serde_json.specs.declared.value.Value.{Value}

pub two_long : (vs : List Value) (d e : Data) → items_view vs ≡ item d (item e no_items) → length vs ≡ 2
two_long [] d e h = cc
two_long (x ∷ []) d e h = cc
two_long (x ∷ (y ∷ [])) d e h = refl
two_long (x ∷ (y ∷ (z ∷ vs))) d e h = cc

first_is : {X : Type 0} (tree : X → Data) (v w : Value) (ds es : Items) (x : X) → item (view v) ds ≡ item (tree x) es → w ≡ v → view w ≡ tree x
first_is tree v w ds es x h e = let k : view v ≡ tree x = cc in ap view e ∙ k

-- an array that is the trees of a list has one at each place
tree_at : {X : Type 0} (tree : X → Data) (vs : List Value) (xs : List X) (i : ℕ) (v : Value) → items_view vs ≡ items_of (map tree xs) → i < length vs → v ≡ get_or vs i v → (x : X) × (view v ≡ tree x)
tree_at tree [] xs i v h lt e = absurd (omega (arith, lt))
tree_at tree (w ∷ vs) [] i v h lt e = cc
tree_at tree (w ∷ vs) (x ∷ xs) zero v h lt e = (x, first_is tree w v (items_view vs) (items_of (map tree xs)) x h e)
tree_at tree (w ∷ vs) (x ∷ xs) (suc i) v h lt e = tree_at tree vs xs i v (cc) (omega (arith, lt)) e

-- the trees of some items, and of the next one
pub one_more : {X : Type 0} (tree : X → Data) (vs : List Value) (i : ℕ) (v : Value) (xs : List X) (x : X) → i < length vs → v ≡ get_or vs i v → map view (take i vs) ≡ map tree xs → view v ≡ tree x → map view (take (i + 1) vs) ≡ map tree (xs ++ (x ∷ []))
one_more tree vs i v xs x lt is so_far next =
    map_more view vs i v lt ∙ ap (λ a. a ++ (view (get_or vs i v) ∷ [])) so_far
    ∙ ap (λ a. map tree xs ++ (a ∷ [])) (ap view (sym is) ∙ next) ∙ sym (map-append tree xs (x ∷ []))

array_is : (d : Data) (ds : Items) → Some ds ≡ as_array d → d ≡ array ds
array_is null ds e = cc
array_is (boolean b) ds e = cc
array_is (number n) ds e = cc
array_is (string s) ds e = cc
array_is (array es) ds e = let same : es ≡ ds = cc in ap array same
array_is (object ms) ds e = cc

-- all items were read, each as a tree
pub all_read : {X : Type 0} (tree : X → Data) (d : Data) (vs : List Value) (i : ℕ) (xs : List X) → Some (items_view vs) ≡ as_array d → length vs ≤ i → map view (take i vs) ≡ map tree xs → d ≡ array (items_of (map tree xs))
all_read tree d vs i xs is all so_far =
    array_is d (items_view vs) is ∙ ap (λ ds. array (items_of ds)) (ap (map view) (sym (take_all i vs all)) ∙ so_far)

-- an item is no tree, so the array is none of trees
pub item_astray : {X : Type 0} (tree : X → Data) (d : Data) (vs : List Value) (i : ℕ) (v : Value) → Some (items_view vs) ≡ as_array d → i < length vs → v ≡ get_or vs i v → ((x : X) → view v ≢ tree x) → (xs : List X) → d ≢ array (items_of (map tree xs))
item_astray tree d vs i v is lt e other xs same =
    let whole = is ∙ ap as_array same in
    let items : items_view vs ≡ items_of (map tree xs) = cc in
    let there = tree_at tree vs xs i v items lt e in
    other there.0 there.1

-- an object of one member has one value of it
pub same_value : (name : List ℕ) (a b : Data) → object (member name a no_members) ≡ object (member name b no_members) → a ≡ b
same_value name a b e = cc
