-- The items of an array against the trees of a list.
use Rattle.std.proofs.Common.{◌≡◌, ◌≢◌, ℕ, List, [], ◌∷◌, ◌++◌, map, Option, Some, None, Result, Ok, Err, refl, sym, ap, subst, ◌∙◌}
use Rattle.std.proofs.lemmas.List.{map-append, append_assoc, append-nil}
use Rattle.std.specs.Prelude.{IfOk, IsOkAnd, option_map}
use Rattle.std.specs.declared.alloc.AllocError.{AllocError}
use Rattle.json.specs.Json as json
use Rattle.json.specs.Json.{Json}
use Rattle.json.specs.Find.{as_array, as_object}
use Rattle.serde_json.specs.Data.{Data}
use Rattle.serde_json.specs.View.{items_of}
use Rattle.serde_json.specs.Written.{outline, items_outline}
use Rattle.garde_tape.specs.Reading.{item_list, member_list}
use Rattle.std.specs.Prelude.{codes}
use Rattle.garde_report.specs.Part.{Part}
use Rattle.garde_report.specs.Report.{Entry}
use Rattle.garde_json.specs.First.{entries_json}
use Rattle.garde_json.specs.Form.{array_tree, Reads, report_tree}

-- the items, where this is an array
abbrev pub list_of : Json → Option (List Json)
list_of j = option_map item_list (as_array j)

-- the trees of a list
abbrev pub trees : {X : Type 0} → (X → Data) → List X → List Json
trees tree xs = map (λ x. outline (tree x)) xs

-- an array that is the trees of a list has these items
pub listed : {X : Type 0} (tree : X → Data) (xs : List X) → item_list (items_outline (items_of (map tree xs))) ≡ trees tree xs
listed tree [] = refl
listed tree (x ∷ xs) = ap (λ js. outline (tree x) ∷ js) (listed tree xs)

same_items : (js ks : json.Items) → item_list js ≡ item_list ks → js ≡ ks
same_items json.no_items json.no_items e = refl
same_items json.no_items (json.item k ks) e = cc
same_items (json.item j js) json.no_items e = cc
same_items (json.item j js) (json.item k ks) e =
    let head : j ≡ k = cc in
    let tail : item_list js ≡ item_list ks = cc in
    let rest : js ≡ ks = same_items js ks tail in
    cc

-- an array of these items is the one of the list
pub array_is : {X : Type 0} (tree : X → Data) (j : Json) (xs : List X) → list_of j ≡ Some (trees tree xs) → j ≡ array_tree tree xs
array_is tree json.null xs e = cc
array_is tree (json.boolean b) xs e = cc
array_is tree (json.number s) xs e = cc
array_is tree (json.string s) xs e = cc
array_is tree (json.object ms) xs e = cc
array_is tree (json.array js) xs e =
    let inner : item_list js ≡ trees tree xs = cc in
    ap json.array (same_items js _ (inner ∙ sym (listed tree xs)))

stray_item : {X : Type 0} (tree : X → Data) (xs ys : List X) (i : Json) (rest : List Json) → trees tree ys ≡ trees tree xs ++ (i ∷ rest) → (y : X) × (i ≡ outline (tree y))
stray_item tree [] [] i rest e = cc
stray_item tree [] (y ∷ ys) i rest e = let head : i ≡ outline (tree y) = cc in (y, head)
stray_item tree (x ∷ xs) [] i rest e = cc
stray_item tree (x ∷ xs) (y ∷ ys) i rest e = stray_item tree xs ys i rest (cc)

-- each item of an array of trees is a tree
pub item_is : {X : Type 0} (tree : X → Data) (j : Json) (xs ys : List X) (i : Json) (rest : List Json) → list_of j ≡ Some (trees tree xs ++ (i ∷ rest)) → j ≡ array_tree tree ys → (y : X) × (i ≡ outline (tree y))
item_is tree j xs ys i rest e is =
    let all : list_of j ≡ Some (trees tree ys) = ap list_of is ∙ ap Some (listed tree ys) in
    let inner : trees tree ys ≡ trees tree xs ++ (i ∷ rest) = cc in
    stray_item tree xs ys i rest inner

-- an array of two items
pub pair_is : (j a b : Json) → list_of j ≡ Some (a ∷ b ∷ []) → j ≡ json.array (json.item a (json.item b json.no_items))
pair_is json.null a b e = cc
pair_is (json.boolean x) a b e = cc
pair_is (json.number s) a b e = cc
pair_is (json.string s) a b e = cc
pair_is (json.object ms) a b e = cc
pair_is (json.array json.no_items) a b e = cc
pair_is (json.array (json.item x json.no_items)) a b e = cc
pair_is (json.array (json.item x (json.item y json.no_items))) a b e = cc
pair_is (json.array (json.item x (json.item y (json.item z js)))) a b e = cc

-- an object of one member
pub sole_is : (j value : Json) (name : List ℕ) → option_map member_list (as_object j) ≡ Some ((name, value) ∷ []) → j ≡ json.object (json.member name value json.no_members)
sole_is json.null value name e = cc
sole_is (json.boolean b) value name e = cc
sole_is (json.number s) value name e = cc
sole_is (json.string s) value name e = cc
sole_is (json.array js) value name e = cc
sole_is (json.object json.no_members) value name e = cc
sole_is (json.object (json.member k j json.no_members)) value name e =
    let both : ◌≡◌ {A = List ℕ × Json} (name, value) (k, j) = cc in
    λ i. json.object (json.member (sym both i).0 (sym both i).1 json.no_members)
sole_is (json.object (json.member k j (json.member l i ms))) value name e = cc

-- the same by the members that are left
pub sole_left : (j value : Json) (name only : List ℕ) (all after : List (List ℕ × Json)) → Some all ≡ option_map member_list (as_object j) → all ≡ (only, value) ∷ after → after ≡ [] → only ≡ name
    → j ≡ json.object (json.member name value json.no_members)
sole_left j value name only all after is step none same =
    let one : all ≡ (only, value) ∷ [] = step ∙ ap (λ ms. (only, value) ∷ ms) none in
    sole_is j value only (sym is ∙ ap Some one) ∙ ap (λ n. json.object (json.member n value json.no_members)) same

-- ---- what is left of a list while it is read

-- nothing is left
pub end_is : {X : Type 0} (tree : X → Data) (j : Json) (xs : List X) (left : List Json) → left ≡ [] → list_of j ≡ Some (trees tree xs ++ left) → j ≡ array_tree tree xs
end_is tree j xs left none e = array_is tree j xs (e ∙ ap (λ l. Some (trees tree xs ++ l)) none ∙ ap Some (append-nil (trees tree xs)))

-- the next item is no tree, so the array is none of trees
pub left_is : {X : Type 0} (tree : X → Data) (j i : Json) (xs : List X) (left rest : List Json) → left ≡ i ∷ rest → list_of j ≡ Some (trees tree xs ++ left)
    → ((x : X) → i ≢ outline (tree x)) → (ys : List X) → j ≢ array_tree tree ys
left_is tree j i xs left rest step e other ys is =
    let there = item_is tree j xs ys i rest (e ∙ ap (λ l. Some (trees tree xs ++ l)) step) is in
    other there.0 there.1

-- the next item is a tree
pub more_is : {X : Type 0} (tree : X → Data) (j i : Json) (xs : List X) (x : X) (left rest : List Json) → left ≡ i ∷ rest → i ≡ outline (tree x) → list_of j ≡ Some (trees tree xs ++ left)
    → list_of j ≡ Some (trees tree (xs ++ (x ∷ [])) ++ rest)
more_is tree j i xs x left rest step is e =
    let next : left ≡ trees tree (x ∷ []) ++ rest = step ∙ ap (λ v. v ∷ rest) is in
    let all : trees tree xs ++ left ≡ trees tree (xs ++ (x ∷ [])) ++ rest =
    ap (λ l. trees tree xs ++ l) next ∙ sym (append_assoc (trees tree xs) (trees tree (x ∷ [])) rest)
    ∙ ap (λ l. l ++ rest) (sym (map-append (λ y. outline (tree y)) xs (x ∷ []))) in
    e ∙ ap Some all

-- what is read where a value is none
pub none_reads : {X D : Type 0} (tree : X → D) (j : D) (r : Option (Result X AllocError)) → r ≡ None → ((x : X) → j ≢ tree x) → Reads tree j r
none_reads tree j r none other = subst (Reads tree j) (sym none) other

-- the list that was made, where one was, has the value more
pub grown : {X : Type 0} (r old : Result (List X) AllocError) (xs : List X) (x : X) → IfOk r (λ longer. IsOkAnd old (λ made. longer ≡ made ++ (x ∷ []))) → IfOk old (λ made. made ≡ xs) → IfOk r (λ longer. longer ≡ xs ++ (x ∷ []))
grown (Ok l) (Ok m) xs x e is = e ∙ ap (λ ys. ys ++ (x ∷ [])) is
grown (Ok l) (Err a) xs x e is = absurd e
grown (Err a) old xs x e is = tt

-- the same where the value was made too
pub grown_by : {X : Type 0} (r old : Result (List X) AllocError) (last : Result X AllocError) (xs : List X) (x : X)
    → IfOk r (λ longer. IsOkAnd old (λ made. IsOkAnd last (λ value. longer ≡ made ++ (value ∷ []))))
    → IfOk old (λ made. made ≡ xs) → IfOk last (λ value. value ≡ x) → IfOk r (λ longer. longer ≡ xs ++ (x ∷ []))
grown_by (Ok l) (Ok m) (Ok v) xs x e is same = e ∙ ap (λ ys. ys ++ (v ∷ [])) is ∙ ap (λ y. xs ++ (y ∷ [])) same
grown_by (Ok l) (Ok m) (Err a) xs x e is same = absurd e
grown_by (Ok l) (Err a) last xs x e is same = absurd e
grown_by (Err a) old last xs x e is same = tt

-- a list with a value at its end is not empty
pub some_more : {X : Type 0} (xs : List X) (x : X) → xs ++ (x ∷ []) ≢ []
some_more [] x e = cc
some_more (y ∷ ys) x e = cc

-- the array of no items is that of the empty list alone
pub none_listed : {X : Type 0} (tree : X → Data) (xs : List X) → array_tree tree xs ≡ array_tree tree [] → xs ≡ []
none_listed tree [] e = refl
none_listed tree (x ∷ xs) e = cc

-- ---- parts that are made of others

-- a fault was made of a path and an error that were made
pub fault_made : (r : Result Entry AllocError) (path : Result (List Part) AllocError) (error : Result (List ℕ) AllocError) (parts : List Part) (message : List ℕ)
    → IfOk r (λ fault. IsOkAnd path (λ p. fault.0 ≡ p) × IsOkAnd error (λ e. fault.1 ≡ e)) → IfOk path (λ p. p ≡ parts) → IfOk error (λ e. e ≡ message) → IfOk r (λ fault. fault ≡ (parts, message))
fault_made (Ok f) (Ok p) (Ok e) parts message of is same =
    let first : f.0 ≡ parts = of.0 ∙ is in
    let second : f.1 ≡ message = of.1 ∙ same in
    λ i. (first i, second i)
fault_made (Ok f) (Ok p) (Err a) parts message of is same = absurd of.1
fault_made (Ok f) (Err a) error parts message of is same = absurd of.0
fault_made (Err a) path error parts message of is same = tt

pub same_value : (name : List ℕ) (a b : Json) → json.object (json.member name a json.no_members) ≡ json.object (json.member name b json.no_members) → a ≡ b
same_value name a b e = cc

-- what is read of a tree is read of what has it inside
pub reads_inside : {X D : Type 0} (tree : X → D) (wrap : D → D) (d inner : D) (r : Option (Result X AllocError)) → ((a b : D) → wrap a ≡ wrap b → a ≡ b) → d ≡ wrap inner → Reads tree inner r → Reads (λ x. wrap (tree x)) d r
reads_inside tree wrap d inner None one is other = λ x same. other x (one inner (tree x) (sym is ∙ same))
reads_inside tree wrap d inner (Some made) one is read = (read.0, is ∙ ap wrap read.1, read.2)

-- the faults of a report with none
pub no_errors : (j errors : Json) → j ≡ json.object (json.member (codes "errors") errors json.no_members) → j ≡ report_tree [] → errors ≡ outline (entries_json [])
no_errors j errors is none = same_value (codes "errors") errors _ (sym is ∙ none)
