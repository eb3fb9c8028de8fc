-- The members of a request's tree, and what is made of them.
use Rattle.std.proofs.Common.{◌≡◌, ℕ, suc, ◌+◌, ◌<◌, List, [], ◌∷◌, ◌++◌, drop, get_or, length, map, Option, Ordering, Some, String, string_bytes, refl, sym, ap, subst, ◌∙◌}
use Rattle.std.proofs.lemmas.List.{drop_more, map-append}
use Rattle.std.specs.BTreeMap.{insert_entry}
use Rattle.std.specs.Prelude.{option_and_then, option_map, Result, Ok, Err, IfOk, IsOkAnd}
use Rattle.std.specs.declared.alloc.AllocError.{AllocError}
use Rattle.std.specs.Cmp.Lexicographic.{slice_cmp}
use Rattle.std.specs.Ordering.{nat_cmp, match_ordering}
use Rattle.std.specs.String.{string_cmp}
use Rattle.std.specs.declared.alloc.Global.{Global}
use Rattle.std.specs.declared.cmp.Ordering.TheVariants.{Less, Equal, Greater}
use Rattle.serde_json.specs.Data.{Data}
use Rattle.serde_json.specs.Find.{as_object, as_str}
use Rattle.serde_json.specs.View.{items_view, members_view, view}
use Rattle.serde_json.specs.declared.value.Value.{Value}
use Rattle.garde_check.specs.declared.body.Address.{Address}
use Rattle.garde_check.specs.Body.{Content}
use Rattle.garde_check.specs.Request.{IsRequest, Spells, SpellsJust, count, texts_of_items}

abbrev Text : Type 0
Text = String Global

-- the name and the text of an address
abbrev pub entry_of : Text × Address → List ℕ × List ℕ
entry_of e = (string_bytes e.0, string_bytes e.1.0)

pub texts_more : (old new : List Text) (text : Text) (bytes : List ℕ) → new ≡ old ++ text ∷ [] → string_bytes text ≡ bytes → map string_bytes new ≡ map string_bytes old ++ bytes ∷ []
texts_more old new text bytes push is = ap (map string_bytes) push ∙ map-append string_bytes old (text ∷ []) ∙ ap (λ b. map string_bytes old ++ b ∷ []) is

-- each of three cases gives the same before and after
mapped : {A B : Type 0} (f : A → B) (o : Ordering) (x y z : A) → f (match_ordering o x y z) ≡ match_ordering o (f x) (f y) (f z)
mapped f Less x y z = refl
mapped f Equal x y z = refl
mapped f Greater x y z = refl

inserted : (es : List (Text × Address)) (name : Text) (x : Address) → map entry_of (insert_entry string_cmp es name x) ≡ insert_entry (slice_cmp nat_cmp) (map entry_of es) (string_bytes name) (string_bytes x.0)
inserted [] name x = refl
inserted (e ∷ es) name x =
    let order = string_cmp name e.0 in
    mapped (map entry_of) order ((name, x) ∷ e ∷ es) ((e.0, x) ∷ es) (e ∷ insert_entry string_cmp es name x)
    ∙ ap (λ l. match_ordering order (map entry_of ((name, x) ∷ e ∷ es)) (map entry_of ((e.0, x) ∷ es)) (entry_of e ∷ l)) (inserted es name x)

pub entries_more : (old new : List (Text × Address)) (key : Text) (x : Address) (name text : List ℕ) → new ≡ insert_entry string_cmp old key x → string_bytes key ≡ name → string_bytes x.0 ≡ text
    → map entry_of new ≡ insert_entry (slice_cmp nat_cmp) (map entry_of old) name text
entries_more old new key x name text put named is =
    ap (map entry_of) put ∙ inserted old key x ∙ (λ i. insert_entry (slice_cmp nat_cmp) (map entry_of old) (named i) (is i))

-- what was made has one more
pub grown : {R X : Type 0} (says : R → X) (f : X → X) (r old : Result R AllocError) (x : X) → IfOk r (λ longer. IsOkAnd old (λ made. says longer ≡ f (says made))) → IfOk old (λ made. says made ≡ x) → IfOk r (λ longer. says longer ≡ f x)
grown says f (Ok l) (Ok m) x more is = more ∙ ap f is
grown says f (Ok l) (Err a) x more is = absurd more
grown says f (Err a) old x more is = tt

-- one item more is read of an array
pub text_next : (all : List Value) (i : ℕ) (done : List (List ℕ)) (v : Value) (text : Option (List ℕ)) → i < length all → v ≡ get_or all i v → text ≡ as_str (view v)
    → texts_of_items [] (items_view all) ≡ texts_of_items done (items_view (drop i all))
    → texts_of_items [] (items_view all) ≡ option_and_then (λ t. texts_of_items (done ++ t ∷ []) (items_view (drop (i + 1) all))) text
text_next all i done v text lt at is so_far =
    so_far ∙ ap (λ vs. texts_of_items done (items_view vs)) (drop_more all i v lt ∙ ap (λ x. x ∷ drop (i + 1) all) (sym at))
    ∙ ap (option_and_then (λ t. texts_of_items (done ++ t ∷ []) (items_view (drop (i + 1) all)))) (sym is)

-- as many members as the object has entries
pub counted : (ms : List (Text × Value)) → count (members_view ms) ≡ length ms
counted [] = refl
counted (m ∷ ms) = ap suc (counted ms)

-- a request has four
pub four : (tree : Data) (ms : List (Text × Value)) (body : Content) → Some (members_view ms) ≡ as_object tree → IsRequest tree body → length ms ≡ 4
four tree ms body is request = let whole : Some (count (members_view ms)) ≡ Some 4 = ap (option_map count) is ∙ request.four in sym (counted ms) ∙ cc

one_body : (tree : Data) (a b : Content) → IsRequest tree a → IsRequest tree b → a ≡ b
one_body tree a b one other =
    let username : a.username ≡ b.username = let p = sym one.username ∙ other.username in cc in
    let age : a.age ≡ b.age = let p = sym one.age ∙ other.age in cc in
    let tags : a.tags ≡ b.tags = let p = sym one.tags ∙ other.tags in cc in
    let addresses : a.addresses ≡ b.addresses = let p = sym one.addresses ∙ other.addresses in cc in
    λ i. record { username = username i; age = age i; tags = tags i; addresses = addresses i }

-- bytes that spell a body spell no other
pub the_only_body : (bytes : List ℕ) (body : Content) → Spells bytes body → SpellsJust bytes body
the_only_body bytes body spells =
    (spells, λ other o. one_body spells.0 other body (let same : o.0 ≡ spells.0 = let p = sym o.1 ∙ spells.1 in cc in subst (λ t. IsRequest t other) same o.2) spells.2)
