-- What a node tells of what begins with it.
use Rattle.std.proofs.Common.{◌≡◌, ℕ, suc, zero, ◌+◌, ◌<◌, ◌≤◌, List, [], ◌∷◌, map, length, drop, get_or, Option, Some, None, refl, sym, ap, ◌∙◌, subst, arith, lt_of_not-le}
use Rattle.std.proofs.Common as common
use Rattle.std.proofs.Common.{◌-◌, take, take_all}
use Rattle.std.proofs.Math.Seq.{drop-drop}
use Rattle.std.proofs.lemmas.List.{drop_more, drop_all, get_or-map, get_or-drop, get_or_default, length-map, length-drop}
use Rattle.std.specs.Borrow.{Bor}
use Rattle.json.specs.Token.{Token}
use Rattle.json.specs.Json.{Json, null, boolean, number, string, array, object, Items, Members, parse_map, after_end_array, members, value}
use Rattle.json.specs.Tape.{node_token, Passes, Linked, LinkAt}
use Rattle.json.specs.Find.{BeginsWith, HasValue, InItems, InMembers, as_array, as_object, is_null, as_str, as_number, as_bool}
use Rattle.json.specs.declared.tape.Node.{Node}
use Rattle.json.specs.declared.tape.Node.TheVariants.{Object, EndObject, Array, EndArray, Key, String, Number, Bool, Null}
use Rattle.json.proofs.Grammar.{value_is, left_some}
use Rattle.json.proofs.Found.{one_reading, items_need_tokens, opened, not_empty, not_found, Some_inj, IsKey}
use Rattle.garde_tape.specs.Node.{IsOf}
use Rattle.garde_tape.specs.Read.{json_found}
use Rattle.garde_tape.specs.Reading.{json_of}
use Rattle.garde_tape.specs.Walk.{tokens_at, IsTreeAt}

-- the tokens from a node on
pub here : (ns : List Node) (i : ℕ) → i < length ns → tokens_at ns i ≡ node_token (get_or ns i (Object 0)) ∷ tokens_at ns (i + 1)
here ns i h =
    drop_more (map node_token ns) i (node_token (Object 0)) (omega (arith, length-map ns node_token)) ∙ ap (λ t. t ∷ tokens_at ns (i + 1)) (get_or-map node_token ns i (Object 0) (node_token (Object 0)) h)

beyond : (ns : List Node) (i : ℕ) → length ns ≤ i → tokens_at ns i ≡ []
beyond ns i h = drop_all i (map node_token ns) (omega (arith, length-map ns node_token))

-- where a value begins there is a node
pub value_within : (ns : List Node) (i : ℕ) → HasValue (tokens_at ns i) → i < length ns
value_within ns i v = lt_of_not-le (λ h. not_empty v.0 (subst (λ ts. BeginsWith ts v.0) (beyond ns i h) v.1))

-- the nodes from one on are as many as are left
pub rest_within : (ns rest : List Node) (i k : ℕ) → rest ≡ drop i ns → i + k < length ns → k < length rest
rest_within ns rest i k e h = subst (λ r. k < length r) (sym e) (omega (arith, h, length-drop i ns))

-- and they are the same
pub rest_node : (ns rest : List Node) (i k : ℕ) → rest ≡ drop i ns → get_or ns (i + k) (Object 0) ≡ get_or rest k (Object 0)
rest_node ns rest i k e = sym (ap (λ r. get_or r k (Object 0)) e ∙ get_or-drop i ns k (Object 0))

pub rest_first : (ns rest : List Node) (i : ℕ) → rest ≡ drop i ns → get_or ns i (Object 0) ≡ get_or rest 0 (Object 0)
rest_first ns rest i e = ap (λ k. get_or ns k (Object 0)) (omega arith) ∙ rest_node ns rest i 0 e

-- as are those behind the first of them, which a slice takes
pub rest_behind : (ns rest : List Node) (i k : ℕ) → rest ≡ drop i ns → take (length rest - k) (drop k rest) ≡ drop (i + k) ns
rest_behind ns rest i k e =
    take_all (length rest - k) (drop k rest) (omega (arith, length-drop k rest))
    ∙ ap (drop k) e
    ∙ drop-drop k i ns

no_members_of_none : (ms : Members) → InMembers [] ms → ⊥
unfolding members
no_members_of_none ms (d, zero, r, e) = not_found (ms, r) e
no_members_of_none ms (d, suc n, r, e) = not_found (ms, r) e

-- where members are left there is a node
pub members_within : (ns : List Node) (i : ℕ) (ms : Members) → InMembers (tokens_at ns i) ms → i < length ns
members_within ns i ms h = lt_of_not-le (λ few. no_members_of_none ms (subst (λ ts. InMembers ts ms) (beyond ns i few) h))

-- where items are left there is a node
pub items_within : (ns : List Node) (i : ℕ) (js : Items) → InItems (tokens_at ns i) js → i < length ns
items_within ns i js h = lt_of_not-le (λ few. items_need_tokens js (subst (λ ts. InItems ts js) (beyond ns i few) h))

-- what is read of the value, and what follows where it is one token
abbrev Shape : Node → List Token → Json → List Token → Type 0
Shape (Object a) ts j rest = IsOf j (Object a)
Shape EndObject ts j rest = ⊥
Shape (Array a) ts j rest = IsOf j (Array a)
Shape EndArray ts j rest = ⊥
Shape (Key s) ts j rest = ⊥
Shape (String s) ts j rest = IsOf j (String s) × (rest ≡ ts)
Shape (Number s) ts j rest = IsOf j (Number s) × (rest ≡ ts)
Shape (Bool b) ts j rest = IsOf j (Bool b) × (rest ≡ ts)
Shape Null ts j rest = IsOf j Null × (rest ≡ ts)

made : {A : Type 0} (f : A → Json) (o : Option (A × List Token)) (j : Json) (rest : List Token) → parse_map f o ≡ Some (j, rest) → (a : A) × (j ≡ f a)
made f None j rest e = not_found (j, rest) e
made f (Some x) j rest e = (x.0, sym (ap (λ z. z.0) (Some_inj _ _ e)))

alone : (k j : Json) (ts rest : List Token) → ◌≡◌ {A = Option (Json × List Token)} (Some (k, ts)) (Some (j, rest)) → (j ≡ k) × (rest ≡ ts)
alone k j ts rest e = let both = Some_inj _ _ e in (sym (ap (λ z. z.0) both), sym (ap (λ z. z.1) both))

shape : (n : Node) (ts : List Token) (j : Json) (d : ℕ) (rest : List Token) → value d (node_token n ∷ ts) ≡ Some (j, rest) → Shape n ts j rest
shape (Object a) ts j d rest e = made object _ j rest (sym (value_is d _) ∙ e)
shape EndObject ts j d rest e = not_found (j, rest) (sym (value_is d _) ∙ e)
shape (Array a) ts j d rest e = made array _ j rest (sym (value_is d _) ∙ e)
shape EndArray ts j d rest e = not_found (j, rest) (sym (value_is d _) ∙ e)
shape (Key s) ts j d rest e = not_found (j, rest) (sym (value_is d _) ∙ e)
shape (String s) ts j d rest e = alone (string s.now) j ts rest (sym (value_is d _) ∙ e)
shape (Number s) ts j d rest e = alone (number s.now) j ts rest (sym (value_is d _) ∙ e)
shape (Bool b) ts j d rest e = alone (boolean b) j ts rest (sym (value_is d _) ∙ e)
shape Null ts j d rest e = alone null j ts rest (sym (value_is d _) ∙ e)

-- the value is of its first node
pub is_of : (n : Node) (ts : List Token) (j : Json) → BeginsWith (node_token n ∷ ts) j → IsOf j n
is_of (Object a) ts j h = shape (Object a) ts j h.0 h.1 h.2
is_of EndObject ts j h = shape EndObject ts j h.0 h.1 h.2
is_of (Array a) ts j h = shape (Array a) ts j h.0 h.1 h.2
is_of EndArray ts j h = shape EndArray ts j h.0 h.1 h.2
is_of (Key s) ts j h = shape (Key s) ts j h.0 h.1 h.2
is_of (String s) ts j h = (shape (String s) ts j h.0 h.1 h.2).0
is_of (Number s) ts j h = (shape (Number s) ts j h.0 h.1 h.2).0
is_of (Bool b) ts j h = (shape (Bool b) ts j h.0 h.1 h.2).0
is_of Null ts j h = (shape Null ts j h.0 h.1 h.2).0

-- behind a value of one token stands the next one
pub one_token : (n : Node) (ts : List Token) (j : Json) (d : ℕ) (rest : List Token) → ((a : ℕ) → n ≡ Object a → ⊥) → ((a : ℕ) → n ≡ Array a → ⊥) → value d (node_token n ∷ ts) ≡ Some (j, rest) → rest ≡ ts
one_token (Object a) ts j d rest p q e = absurd (p a refl)
one_token EndObject ts j d rest p q e = absurd (shape EndObject ts j d rest e)
one_token (Array a) ts j d rest p q e = absurd (q a refl)
one_token EndArray ts j d rest p q e = absurd (shape EndArray ts j d rest e)
one_token (Key s) ts j d rest p q e = absurd (shape (Key s) ts j d rest e)
one_token (String s) ts j d rest p q e = (shape (String s) ts j d rest e).1
one_token (Number s) ts j d rest p q e = (shape (Number s) ts j d rest e).1
one_token (Bool b) ts j d rest p q e = (shape (Bool b) ts j d rest e).1
one_token Null ts j d rest p q e = (shape Null ts j d rest e).1

-- what the node behind the first of those that are left is linked to
pub link_behind : (ns rest : List Node) (i : ℕ) (n : Node) → Linked (map node_token ns) 0 ns → HasValue (tokens_at ns (i + 1)) → rest ≡ drop i ns → get_or rest 1 (Object 0) ≡ n → LinkAt (map node_token ns) (i + 1) n
link_behind ns rest i n linked begins e is =
    let within = value_within ns (i + 1) begins in
    subst (LinkAt (map node_token ns) (i + 1)) (get_or_default ns (i + 1) Null (Object 0) within ∙ rest_node ns rest i 1 e ∙ is) (linked (i + 1) (omega arith) within)

-- behind a list or an object stands what its link says
pub by_link : (all : List Token) (i end d : ℕ) (j : Json) (rest : List Token) → Passes all i end → value d (drop i all) ≡ Some (j, rest) → rest ≡ drop end all
by_link all i end d j rest link e =
    let other = left_some (value link.0 (drop i all)) (drop end all) link.1 in
    ap (λ z. z.1) (Some_inj _ _ (one_reading d link.0 (drop i all) _ _ e other.1))

pub no_close : (n : Node) (ts : List Token) → (n ≡ EndArray → ⊥) → after_end_array (node_token n ∷ ts) ≡ None
no_close (Object a) ts never = refl
no_close EndObject ts never = refl
no_close (Array a) ts never = refl
no_close EndArray ts never = absurd (never refl)
no_close (Key s) ts never = refl
no_close (String s) ts never = refl
no_close (Number s) ts never = refl
no_close (Bool b) ts never = refl
no_close Null ts never = refl

pub no_key : (n : Node) → ((s : Bor (List ℕ)) → n ≡ Key s → ⊥) → IsKey (node_token n) → ⊥
no_key (Object a) never h = h
no_key EndObject never h = h
no_key (Array a) never h = h
no_key EndArray never h = h
no_key (Key s) never h = never s refl
no_key (String s) never h = h
no_key (Number s) never h = h
no_key (Bool b) never h = h
no_key Null never h = h

pub no_text : (n : Node) (j : Json) → ((x : Bor (List ℕ)) → n ≡ String x → ⊥) → IsOf j n → None ≡ as_str j
no_text (Object a) j never h = ap as_str (sym h.1)
no_text EndObject j never h = absurd h
no_text (Array a) j never h = ap as_str (sym h.1)
no_text EndArray j never h = absurd h
no_text (Key s) j never h = absurd h
no_text (String s) j never h = absurd (never s refl)
no_text (Number s) j never h = ap as_str (sym h)
no_text (Bool b) j never h = ap as_str (sym h)
no_text Null j never h = ap as_str (sym h)

pub no_number : (n : Node) (j : Json) → ((x : Bor (List ℕ)) → n ≡ Number x → ⊥) → IsOf j n → None ≡ as_number j
no_number (Object a) j never h = ap as_number (sym h.1)
no_number EndObject j never h = absurd h
no_number (Array a) j never h = ap as_number (sym h.1)
no_number EndArray j never h = absurd h
no_number (Key s) j never h = absurd h
no_number (String s) j never h = ap as_number (sym h)
no_number (Number s) j never h = absurd (never s refl)
no_number (Bool b) j never h = ap as_number (sym h)
no_number Null j never h = ap as_number (sym h)

pub no_boolean : (n : Node) (j : Json) → ((x : common.Bool) → n ≡ Bool x → ⊥) → IsOf j n → None ≡ as_bool j
no_boolean (Object a) j never h = ap as_bool (sym h.1)
no_boolean EndObject j never h = absurd h
no_boolean (Array a) j never h = ap as_bool (sym h.1)
no_boolean EndArray j never h = absurd h
no_boolean (Key s) j never h = absurd h
no_boolean (String s) j never h = ap as_bool (sym h)
no_boolean (Number s) j never h = ap as_bool (sym h)
no_boolean (Bool b) j never h = absurd (never b refl)
no_boolean Null j never h = ap as_bool (sym h)

pub not_null : (n : Node) (j : Json) → (n ≡ Null → ⊥) → IsOf j n → common.false ≡ is_null j
not_null (Object a) j never h = ap is_null (sym h.1)
not_null EndObject j never h = absurd h
not_null (Array a) j never h = ap is_null (sym h.1)
not_null EndArray j never h = absurd h
not_null (Key s) j never h = absurd h
not_null (String s) j never h = ap is_null (sym h)
not_null (Number s) j never h = ap is_null (sym h)
not_null (Bool b) j never h = ap is_null (sym h)
not_null Null j never h = absurd (never refl)

pub no_list : (n : Node) (j : Json) → ((x : ℕ) → n ≡ Array x → ⊥) → IsOf j n → None ≡ as_array j
no_list (Object a) j never h = ap as_array (sym h.1)
no_list EndObject j never h = absurd h
no_list (Array a) j never h = absurd (never a refl)
no_list EndArray j never h = absurd h
no_list (Key s) j never h = absurd h
no_list (String s) j never h = ap as_array (sym h)
no_list (Number s) j never h = ap as_array (sym h)
no_list (Bool b) j never h = ap as_array (sym h)
no_list Null j never h = ap as_array (sym h)

pub no_object : (n : Node) (j : Json) → ((x : ℕ) → n ≡ Object x → ⊥) → IsOf j n → None ≡ as_object j
no_object (Object a) j never h = absurd (never a refl)
no_object EndObject j never h = absurd h
no_object (Array a) j never h = ap as_object (sym h.1)
no_object EndArray j never h = absurd h
no_object (Key s) j never h = absurd h
no_object (String s) j never h = ap as_object (sym h)
no_object (Number s) j never h = ap as_object (sym h)
no_object (Bool b) j never h = ap as_object (sym h)
no_object Null j never h = ap as_object (sym h)

-- the value that begins at a node is of that node
pub tree_is_of : (ns : List Node) (i : ℕ) → IsTreeAt ns i → IsOf (json_of (tokens_at ns i)) (get_or ns i (Object 0))
tree_is_of ns i t =
    let v = t.tree.value in
    let n = get_or ns i (Object 0) in
    let of : IsOf v.0 n = is_of n _ v.0 (subst (λ ts. BeginsWith ts v.0) (here ns i (value_within ns i v)) v.1) in
    subst (λ j. IsOf j n) (sym (json_found _ v.0 v.1)) of

-- behind the node of a list stand its items
pub items_opened : (ns : List Node) (i a : ℕ) (j : Json) → get_or ns i (Object 0) ≡ Array a → BeginsWith (tokens_at ns i) j → (js : Items) × (j ≡ array js) × InItems (tokens_at ns (i + 1)) js
items_opened ns i a j is h =
    let ts = tokens_at ns (i + 1) in
    let b : BeginsWith (node_token (Array a) ∷ ts) j = subst (λ all. BeginsWith all j) (here ns i (value_within ns i (j, h)) ∙ ap (λ n. node_token n ∷ ts) is) h in
    let s : IsOf j (Array a) = is_of (Array a) ts j b in
    (s.0, s.1, opened _ (array s.0) (subst (BeginsWith (node_token (Array a) ∷ ts)) s.1 b))

-- behind the node of an object stand its members
pub members_opened : (ns : List Node) (i a : ℕ) (j : Json) → get_or ns i (Object 0) ≡ Object a → BeginsWith (tokens_at ns i) j → (ms : Members) × (j ≡ object ms) × InMembers (tokens_at ns (i + 1)) ms
members_opened ns i a j is h =
    let ts = tokens_at ns (i + 1) in
    let b : BeginsWith (node_token (Object a) ∷ ts) j = subst (λ all. BeginsWith all j) (here ns i (value_within ns i (j, h)) ∙ ap (λ n. node_token n ∷ ts) is) h in
    let s : IsOf j (Object a) = is_of (Object a) ts j b in
    (s.0, s.1, opened _ (object s.0) (subst (BeginsWith (node_token (Object a) ∷ ts)) s.1 b))
