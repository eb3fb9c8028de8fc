-- Lemmas on JSON values that are copied.
use Rattle.std.proofs.Common.{◌≡◌, ℕ, ◌<◌, ◌+◌, ◌++◌, Bool, List, [], ◌∷◌, Option, Some, None, refl, ap, ap₂, sym, ◌∙◌, arith, rules, append-nil}
use Rattle.std.specs.Prelude.{map, option_map, Vec}
use Rattle.std.specs.Borrow.{Bor}
use Rattle.std.specs.List.{All}
use Rattle.std.proofs.lemmas.List.Elements.{All-nil, All-cons}
use Rattle.json.specs.Json.{Json, null, boolean, number, string, array, object, Items, no_items, item, Members, no_members, member}
use Rattle.json.specs.Find.{as_str, as_number, as_bool, as_array, as_object}
use Rattle.json.specs.Tree.{depth, items_depth, members_depth}
use Rattle.json.specs.Value.{value_view, items_of, members_of}
use Rattle.json.specs.declared.value.Value.{Value, Array, Object}
use Rattle.json.proofs.Trees.{view-Array, view-Object}
use Rattle.garde_tape.specs.Reading.{item_list, member_list}
use Rattle.garde_schema.specs.Kept.{member_views, views_of}

-- a value is what a look at it found
pub text_is : (j : Json) (s : List ℕ) → Some s ≡ as_str j → j ≡ string s
text_is null s is = cc
text_is (boolean b) s is = cc
text_is (number t) s is = cc
text_is (string t) s is = cc
text_is (array js) s is = cc
text_is (object ms) s is = cc

pub number_is : (j : Json) (s : List ℕ) → Some s ≡ as_number j → j ≡ number s
number_is null s is = cc
number_is (boolean b) s is = cc
number_is (number t) s is = cc
number_is (string t) s is = cc
number_is (array js) s is = cc
number_is (object ms) s is = cc

pub flag_is : (j : Json) (f : Bool) → Some f ≡ as_bool j → j ≡ boolean f
flag_is null f is = cc
flag_is (boolean b) f is = cc
flag_is (number t) f is = cc
flag_is (string t) f is = cc
flag_is (array js) f is = cc
flag_is (object ms) f is = cc

pub list_is : (j : Json) (items : List Json) → Some items ≡ option_map item_list (as_array j) → (js : Items) × (j ≡ array js) × (items ≡ item_list js)
list_is null items is = cc
list_is (boolean b) items is = cc
list_is (number t) items is = cc
list_is (string t) items is = cc
list_is (array js) items is = (js, refl, cc)
list_is (object ms) items is = cc

pub object_is : (j : Json) (members : List (List ℕ × Json)) → Some members ≡ option_map member_list (as_object j) → (ms : Members) × (j ≡ object ms) × (members ≡ member_list ms)
object_is null members is = cc
object_is (boolean b) members is = cc
object_is (number t) members is = cc
object_is (string t) members is = cc
object_is (array js) members is = cc
object_is (object ms) members is = (ms, refl, cc)

pub null_is : (j : Json) → None ≡ as_str j → None ≡ as_number j → None ≡ as_bool j → None ≡ option_map item_list (as_array j) → None ≡ option_map member_list (as_object j) → j ≡ null
null_is null a b c d e = refl
null_is (boolean x) a b c d e = cc
null_is (number t) a b c d e = cc
null_is (string t) a b c d e = cc
null_is (array js) a b c d e = cc
null_is (object ms) a b c d e = cc

-- the items of a list, and the members of an object, are those that they are made of
items_back : (js : Items) → items_of (item_list js) ≡ js
items_back no_items = refl
items_back (item j js) = ap (item j) (items_back js)

members_back : {A : Type 0} (xs : List (Bor (List ℕ) × Value A)) (ms : Members) → member_views xs ≡ member_list ms → members_of (map (λ m. (m.0, value_view m.1)) xs) ≡ ms
members_back [] no_members is = refl
members_back [] (member k j ms) is = cc
members_back (x ∷ xs) no_members is = cc
members_back (x ∷ xs) (member k j ms) is =
    let head : ◌≡◌ {A = List ℕ × Json} (x.0.now, value_view x.1) (k, j) = cc in
    let name : x.0.now ≡ k = ap (λ p. p.0) head in
    let value : value_view x.1 ≡ j = ap (λ p. p.1) head in
    let rest : member_views xs ≡ member_list ms = cc in
    ap₂ (λ a b. member a b (members_of (map (λ m. (m.0, value_view m.1)) xs))) name value ∙ ap (member k j) (members_back xs ms rest)

pub list_view : {A : Type 0} (v : Vec (Value A) A) (items : List Json) (j : Json) → views_of v.items ≡ items → ((js : Items) × (j ≡ array js) × (items ≡ item_list js)) → value_view (Array v) ≡ j
list_view v items j same (js, is, all) = view-Array v ∙ ap array (ap items_of (same ∙ all) ∙ items_back js) ∙ sym is

pub object_view : {A : Type 0} (v : Vec (Bor (List ℕ) × Value A) A) (members : List (List ℕ × Json)) (j : Json) → member_views v.items ≡ members → ((ms : Members) × (j ≡ object ms) × (members ≡ member_list ms)) → value_view (Object v) ≡ j
object_view v members j same (ms, is, all) = view-Object v ∙ ap object (members_back v.items ms (same ∙ all)) ∙ sym is

-- they nest less deep
items_below : (n : ℕ) (js : Items) → items_depth js < n → All (λ x. depth x < n) (item_list js)
items_below n no_items less = All-nil (λ x. depth x < n)
items_below n (item j js) less = All-cons (λ x. depth x < n) j (item_list js) (omega (arith, less)) (items_below n js (omega (arith, less)))

pub items_less : (items : List Json) (j : Json) → ((js : Items) × (j ≡ array js) × (items ≡ item_list js)) → All (λ x. depth x < depth j) items
items_less items j (js, is, all) = rw (all, is) (items_below (depth (array js)) js (omega arith))

members_below : (n : ℕ) (ms : Members) → members_depth ms < n → All (λ m. depth m.1 < n) (member_list ms)
members_below n no_members less = All-nil (λ m. depth m.1 < n)
members_below n (member k j ms) less = All-cons (λ m. depth m.1 < n) (k, j) (member_list ms) (omega (arith, less)) (members_below n ms (omega (arith, less)))

pub members_less : (members : List (List ℕ × Json)) (j : Json) → ((ms : Members) × (j ≡ object ms) × (members ≡ member_list ms)) → All (λ m. depth m.1 < depth j) members
members_less members j (ms, is, all) = rw (all, is) (members_below (depth (object ms)) ms (omega arith))

-- what was copied, and then what is left, is all: after one more, and at the end
map_more : {A B : Type 0} (f : A → B) (vs : List A) (v : A) (rest : List B) → map f (vs ++ v ∷ []) ++ rest ≡ map f vs ++ f v ∷ rest
map_more f [] v rest = refl
map_more f (x ∷ xs) v rest = ap (λ l. f x ∷ l) (map_more f xs v rest)

pub one_more : {A B : Type 0} (f : A → B) (vs now : List A) (v : A) (x : B) (left rest all : List B) → now ≡ vs ++ v ∷ [] → f v ≡ x → left ≡ x ∷ rest → map f vs ++ left ≡ all → map f now ++ rest ≡ all
one_more f vs now v x left rest all is seen step so =
    ap (λ l. map f l ++ rest) is ∙ map_more f vs v rest ∙ ap (λ y. map f vs ++ y ∷ rest) seen ∙ sym (ap (λ l. map f vs ++ l) step) ∙ so

pub no_more : {A B : Type 0} (f : A → B) (vs : List A) (left all : List B) → left ≡ [] → map f vs ++ left ≡ all → map f vs ≡ all
no_more f vs left all end so = sym (append-nil (map f vs)) ∙ sym (ap (λ l. map f vs ++ l) end) ∙ so
