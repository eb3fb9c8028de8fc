-- The walks over a tape's nodes.
use Rattle.std.proofs.Common.{◌≡◌, ℕ, zero, suc, ◌+◌, ◌<◌, ◌≤◌, List, [], ◌∷◌, ◌++◌, map, length, drop, get_or, Bool, true, false, cond, Option, Some, None, option_map, refl, sym, ap, ◌∙◌, subst, arith, bytes_eq, length-append, append_assoc, true≢false, le_refl, ◌⊎◌, ⊎_elim}
use Rattle.std.specs.Prelude.{is_some}
use Rattle.std.proofs.Math.Seq.{drop-append_seam, drop-append-add}
use Rattle.std.proofs.lemmas.List.{drop-drop, drop_more, get_or-map, length-map, length-drop}
use Rattle.std.specs.Borrow.{Bor}
use Rattle.json.specs.Token.{Token, begin_object, end_object, begin_array, end_array, key}
use Rattle.json.specs.Token as token
use Rattle.json.specs.Json.{Json, null, boolean, number, string, array, object, Items, no_items, item, Members, no_members, member, value}
use Rattle.json.specs.Tree.{json_tokens, items_tokens, members_tokens, depth}
use Rattle.json.specs.Tape.{node_token, Passes}
use Rattle.json.specs.Find.{later_or, get_item, get_member, as_object, as_array}
use Rattle.json.specs.declared.tape.Node.{Node}
use Rattle.json.specs.declared.tape.Node.TheVariants.{Object, EndObject, Array, EndArray, Key, String, Number, Bool as Truth, Null}
use Rattle.json.proofs.Found.{one_reading, not_found, Some_inj}
use Rattle.json.proofs.Grammar.{left_some}
use Rattle.json.proofs.Printed.Trees.{value-json_tokens}
use Rattle.garde_report.specs.Part.{Part, part}
use Rattle.garde_report.specs.declared.error.component.Kind.{Kind}
use Rattle.garde_report.specs.declared.error.component.Kind.TheVariants as kind
use Rattle.garde_tape.specs.Number.{unsigned_of}
use Rattle.garde_places.specs.Steps.{item_of, inside, go_by, go, go_on, reached, before_numbered, before_inside, before_by, inside_spot, named_spot, before_item, behind, before_member, before, add_on, tokens_before, item_spot, member_spot, step_spot, Spells, SpellItems, SpellMembers}

-- what was found first, where nothing is found later
abbrev pub or_found : Option ℕ → Option ℕ → Option ℕ
or_found None o = o
or_found (Some n) o = Some n

-- the items from one on, as a function gives them
pub mapped_more : {X Y : Type 0} (f : X → Y) (xs : List X) (i : ℕ) (d : X) → i < length xs → drop i (map f xs) ≡ f (get_or xs i d) ∷ drop (i + 1) (map f xs)
mapped_more f xs i d h =
    drop_more (map f xs) i (f d) (omega (arith, length-map xs f)) ∙ ap (λ t. t ∷ drop (i + 1) (map f xs)) (get_or-map f xs i d (f d) h)

pub here : (ns : List Node) (i : ℕ) (d : Node) → i < length ns → drop i (map node_token ns) ≡ node_token (get_or ns i d) ∷ drop (i + 1) (map node_token ns)
here = mapped_more node_token

-- ---- the first token

abbrev first_of : List Token → Token
first_of [] = token.bad
first_of (t ∷ ts) = t

abbrev left_of : List Token → List Token
left_of [] = []
left_of (t ∷ ts) = ts

abbrev pub opens_object : Token → Bool
opens_object begin_object = true
opens_object end_object = false
opens_object begin_array = false
opens_object end_array = false
opens_object (key s) = false
opens_object (token.string s) = false
opens_object (token.number s) = false
opens_object (token.boolean b) = false
opens_object token.null = false
opens_object token.bad = false

abbrev pub opens_array : Token → Bool
opens_array begin_object = false
opens_array end_object = false
opens_array begin_array = true
opens_array end_array = false
opens_array (key s) = false
opens_array (token.string s) = false
opens_array (token.number s) = false
opens_array (token.boolean b) = false
opens_array token.null = false
opens_array token.bad = false

pub starts_object : (t : Token) (ts : List Token) (j : Json) → Spells (t ∷ ts) j → opens_object t ≡ is_some (as_object j)
starts_object t ts null h = ap (λ l. opens_object (first_of l)) h.1
starts_object t ts (boolean b) h = ap (λ l. opens_object (first_of l)) h.1
starts_object t ts (number s) h = ap (λ l. opens_object (first_of l)) h.1
starts_object t ts (string s) h = ap (λ l. opens_object (first_of l)) h.1
starts_object t ts (array js) h = ap (λ l. opens_object (first_of l)) h.1
starts_object t ts (object ms) h = ap (λ l. opens_object (first_of l)) h.1

pub starts_array : (t : Token) (ts : List Token) (j : Json) → Spells (t ∷ ts) j → opens_array t ≡ is_some (as_array j)
starts_array t ts null h = ap (λ l. opens_array (first_of l)) h.1
starts_array t ts (boolean b) h = ap (λ l. opens_array (first_of l)) h.1
starts_array t ts (number s) h = ap (λ l. opens_array (first_of l)) h.1
starts_array t ts (string s) h = ap (λ l. opens_array (first_of l)) h.1
starts_array t ts (array js) h = ap (λ l. opens_array (first_of l)) h.1
starts_array t ts (object ms) h = ap (λ l. opens_array (first_of l)) h.1

pub some_tokens : (j : Json) → 0 < length (json_tokens j)
some_tokens null = omega arith
some_tokens (boolean b) = omega arith
some_tokens (number s) = omega arith
some_tokens (string s) = omega arith
some_tokens (array js) = omega arith
some_tokens (object ms) = omega arith

pub not_nothing : {P : Type 0} (j : Json) → Spells [] j → P
not_nothing j h = absurd (omega (arith, some_tokens j, ap length h.1, length-append (json_tokens j) h.0))

-- ---- behind a value

one_token : (t : Token) (ts : List Token) (j : Json) → opens_object t ≡ false → opens_array t ≡ false → Spells (t ∷ ts) j → length (json_tokens j) ≡ 1
one_token t ts null p q h = refl
one_token t ts (boolean b) p q h = refl
one_token t ts (number s) p q h = refl
one_token t ts (string s) p q h = refl
one_token t ts (array js) p q h = absurd (true≢false (sym (starts_array t ts (array js) h) ∙ q))
one_token t ts (object ms) p q h = absurd (true≢false (sym (starts_object t ts (object ms) h) ∙ p))

no_object : (n : Node) → ((a : ℕ) → n ≡ Object a → ⊥) → opens_object (node_token n) ≡ false
no_object (Object a) p = absurd (p a refl)
no_object EndObject p = refl
no_object (Array a) p = refl
no_object EndArray p = refl
no_object (Key s) p = refl
no_object (String s) p = refl
no_object (Number s) p = refl
no_object (Truth b) p = refl
no_object Null p = refl

no_array : (n : Node) → ((a : ℕ) → n ≡ Array a → ⊥) → opens_array (node_token n) ≡ false
no_array (Object a) p = refl
no_array EndObject p = refl
no_array (Array a) p = absurd (p a refl)
no_array EndArray p = refl
no_array (Key s) p = refl
no_array (String s) p = refl
no_array (Number s) p = refl
no_array (Truth b) p = refl
no_array Null p = refl

pub not_object : (n : Node) (ts : List Token) (j : Json) → ((a : ℕ) → n ≡ Object a → ⊥) → Spells (node_token n ∷ ts) j → false ≡ is_some (as_object j)
not_object n ts j p h = sym (no_object n p) ∙ starts_object _ ts j h

pub not_array : (n : Node) (ts : List Token) (j : Json) → ((a : ℕ) → n ≡ Array a → ⊥) → Spells (node_token n ∷ ts) j → false ≡ is_some (as_array j)
not_array n ts j p h = sym (no_array n p) ∙ starts_array _ ts j h

pub alone : (n : Node) (ts : List Token) (j : Json) → ((a : ℕ) → n ≡ Object a → ⊥) → ((a : ℕ) → n ≡ Array a → ⊥) → Spells (node_token n ∷ ts) j → length (json_tokens j) ≡ 1
alone n ts j p q h = one_token (node_token n) ts j (no_object n p) (no_array n q) h

pub by_link : (all : List Token) (i end : ℕ) (j : Json) → i < length all → Passes all i end → Spells (drop i all) j → end ≡ i + length (json_tokens j)
by_link all i end j inside link h =
    let read = left_some (value link.0 (drop i all)) (drop end all) link.1 in
    let mine : value (depth j) (drop i all) ≡ Some (j, h.0) = ap (value (depth j)) h.1 ∙ value-json_tokens j (depth j) h.0 (le_refl _) in
    let rest = ap (λ z. z.1) (Some_inj _ _ (one_reading (depth j) link.0 (drop i all) _ _ mine read.1)) in
    omega (arith, link.2, link.3, inside, ap length h.1, ap length rest, length-append (json_tokens j) h.0, length-drop i all, length-drop end all)

pub past_value : (all : List Token) (i : ℕ) (j : Json) (more : List Token) → drop i all ≡ json_tokens j ++ more → drop (i + length (json_tokens j)) all ≡ more
past_value all i j more e = sym (drop-drop (length (json_tokens j)) i all) ∙ ap (drop (length (json_tokens j))) e ∙ drop-append_seam (json_tokens j) more

-- ---- a path

drop_zero : (ts : List Token) → drop 0 ts ≡ ts
drop_zero [] = refl
drop_zero (t ∷ ts) = refl

pub item_there : (n : ℕ) (js : Items) (rest : List Token) (i : Json) → get_item n js ≡ Some i → Spells (drop (before_item n js) (items_tokens js ++ rest)) i
item_there zero no_items rest i e = not_found i e
item_there (suc n) no_items rest i e = not_found i e
item_there zero (item j js) rest i e =
    let more = items_tokens js ++ rest in
    (more, drop_zero _ ∙ append_assoc (json_tokens j) (items_tokens js) rest ∙ ap (λ v. json_tokens v ++ more) (Some_inj j i e))
item_there (suc n) (item j js) rest i e =
    let later = item_there n js rest i e in
    (later.0, ap (drop (length (json_tokens j) + before_item n js)) (append_assoc (json_tokens j) (items_tokens js) rest) ∙ drop-append-add (json_tokens j) (items_tokens js ++ rest) (before_item n js) ∙ later.1)

member_here : (c : Bool) (k : List ℕ) (j i : Json) (more : List Token) → cond c (Some j) None ≡ Some i → Spells (drop 1 (key k ∷ (json_tokens j ++ more))) i
member_here true k j i more e = (more, drop_zero _ ∙ ap (λ v. json_tokens v ++ more) (Some_inj j i e))
member_here false k j i more e = not_found i e

member_turn : (name k : List ℕ) (j : Json) (ms : Members) (rest : List Token) (i : Json) (o : Option Json) → get_member name ms ≡ o
    → ((l : Json) → get_member name ms ≡ Some l → Spells (drop (before_member name ms) (members_tokens ms ++ rest)) l)
    → later_or o (cond (bytes_eq k name) (Some j) None) ≡ Some i → Spells (drop (behind o (suc (length (json_tokens j) + before_member name ms))) (key k ∷ (json_tokens j ++ (members_tokens ms ++ rest)))) i
member_turn name k j ms rest i None is later e = member_here (bytes_eq k name) k j i (members_tokens ms ++ rest) e
member_turn name k j ms rest i (Some l) is later e =
    let f = later l is in
    (f.0, drop-append-add (json_tokens j) (members_tokens ms ++ rest) (before_member name ms) ∙ f.1 ∙ ap (λ v. json_tokens v ++ f.0) (Some_inj l i e))

pub member_there : (name : List ℕ) (ms : Members) (rest : List Token) (i : Json) → get_member name ms ≡ Some i → Spells (drop (before_member name ms) (members_tokens ms ++ rest)) i
member_there name no_members rest i e = not_found i e
member_there name (member k j ms) rest i e =
    subst (λ l. Spells (drop (before_member name (member k j ms)) (key k ∷ l)) i) (sym (append_assoc (json_tokens j) (members_tokens ms) rest))
    (member_turn name k j ms rest i (get_member name ms) refl (λ l. member_there name ms rest l) e)

item_of_there : (n : Option ℕ) (js : Items) (rest : List Token) (i : Json) → item_of n js ≡ Some i → Spells (drop (before_numbered n js) (begin_array ∷ (items_tokens js ++ rest))) i
item_of_there None js rest i e = not_found i e
item_of_there (Some n) js rest i e = item_there n js rest i e

inside_there : (text : List ℕ) (j : Json) (rest : List Token) (i : Json) → inside text j ≡ Some i → Spells (drop (before_inside text j) (json_tokens j ++ rest)) i
inside_there text null rest i e = not_found i e
inside_there text (boolean b) rest i e = not_found i e
inside_there text (number s) rest i e = not_found i e
inside_there text (string s) rest i e = not_found i e
inside_there text (array js) rest i e = item_of_there (unsigned_of 64 text) js rest i e
inside_there text (object ms) rest i e = member_there text ms rest i e

by_there : (k : Kind) (text : List ℕ) (j : Json) (rest : List Token) (i : Json) → go_by k text j ≡ Some i → Spells (drop (before_by k text j) (json_tokens j ++ rest)) i
by_there kind.None text j rest i e = (rest, drop_zero _ ∙ ap (λ v. json_tokens v ++ rest) (Some_inj j i e))
by_there kind.Key text j rest i e = inside_there text j rest i e
by_there kind.Index text j rest i e = inside_there text j rest i e

step_there : (s : Part) (j : Json) (rest : List Token) (i : Json) → go s j ≡ Some i → Spells (drop (before s j) (json_tokens j ++ rest)) i
step_there s j rest i e = by_there s.kind s.text j rest i e

-- the tokens that the step leads to begin with the value that it leads to
pub stepped : (s : Part) (j : Json) (ts : List Token) (i : Json) → go s j ≡ Some i → Spells ts j → Spells (drop (before s j) ts) i
stepped s j ts i e h = subst (λ l. Spells (drop (before s j) l) i) (sym h.1) (step_there s j h.0 i e)

along : (s : Part) (path : List Part) (j : Json) (ts : List Token) (o : Option Json) → go s j ≡ o → Spells ts j
    → ((i : Json) (us : List Token) → Spells us i → Spells (drop (tokens_before path i) us) (reached path i))
    → Spells (drop (add_on o (before s j) (tokens_before path)) ts) (go_on o j (reached path))
along s path j ts None is h more = subst (λ l. Spells l j) (sym (drop_zero ts)) h
along s path j ts (Some i) is h more =
    subst (λ l. Spells l (reached path i)) (drop-drop (tokens_before path i) (before s j) ts) (more i (drop (before s j) ts) (stepped s j ts i is h))

-- the same of a path
pub path_there : (path : List Part) (j : Json) (ts : List Token) → Spells ts j → Spells (drop (tokens_before path j) ts) (reached path j)
path_there [] j ts h = subst (λ l. Spells l j) (sym (drop_zero ts)) h
path_there (s ∷ path) j ts h = along s path j ts (go s j) refl h (path_there path)

-- ---- the items

abbrev pub ends_array : Token → Bool
ends_array begin_object = false
ends_array end_object = false
ends_array begin_array = false
ends_array end_array = true
ends_array (key s) = false
ends_array (token.string s) = false
ends_array (token.number s) = false
ends_array (token.boolean b) = false
ends_array token.null = false
ends_array token.bad = false

starts_no_end : (t : Token) (ts : List Token) (j : Json) → Spells (t ∷ ts) j → ends_array t ≡ false
starts_no_end t ts null h = ap (λ l. ends_array (first_of l)) h.1
starts_no_end t ts (boolean b) h = ap (λ l. ends_array (first_of l)) h.1
starts_no_end t ts (number s) h = ap (λ l. ends_array (first_of l)) h.1
starts_no_end t ts (string s) h = ap (λ l. ends_array (first_of l)) h.1
starts_no_end t ts (array js) h = ap (λ l. ends_array (first_of l)) h.1
starts_no_end t ts (object ms) h = ap (λ l. ends_array (first_of l)) h.1

pub no_end : (n : Node) → (n ≡ EndArray → ⊥) → ends_array (node_token n) ≡ false
no_end (Object a) p = refl
no_end EndObject p = refl
no_end (Array a) p = refl
no_end EndArray p = absurd (p refl)
no_end (Key s) p = refl
no_end (String s) p = refl
no_end (Number s) p = refl
no_end (Truth b) p = refl
no_end Null p = refl

pub items_some : {P : Type 0} (js : Items) → SpellItems [] js → P
items_some no_items h = absurd (omega (arith, ap length h.1))
items_some (item j js) h = absurd (omega (arith, some_tokens j, ap length h.1, length-append (json_tokens j ++ items_tokens js) h.0, length-append (json_tokens j) (items_tokens js)))

first_item : (ts : List Token) (j : Json) (js : Items) (rest : List Token) → ts ≡ items_tokens (item j js) ++ rest → ts ≡ json_tokens j ++ (items_tokens js ++ rest)
first_item ts j js rest e = e ∙ append_assoc (json_tokens j) (items_tokens js) rest

pub items_end : (ts : List Token) (js : Items) → SpellItems (end_array ∷ ts) js → js ≡ no_items
items_end ts no_items h = refl
items_end ts (item j js) h = absurd (true≢false (starts_no_end end_array ts j (items_tokens js ++ h.0, first_item _ j js h.0 h.1)))

abbrev pub FirstItem : List Token → Items → Type 0
FirstItem ts js = (j : Json) × (more : Items) × (rest : List Token) × (js ≡ item j more) × (ts ≡ json_tokens j ++ (items_tokens more ++ rest))

pub items_more : (t : Token) (ts : List Token) (js : Items) → ends_array t ≡ false → SpellItems (t ∷ ts) js → FirstItem (t ∷ ts) js
items_more t ts no_items p h = absurd (true≢false (sym (ap (λ l. ends_array (first_of l)) h.1) ∙ p))
items_more t ts (item j js) p h = (j, js, h.0, refl, first_item _ j js h.0 h.1)

pub item_none : (start n : ℕ) → None ≡ item_spot start n no_items
item_none start zero = refl
item_none start (suc n) = refl

moved : (o : Option Json) (a b : ℕ) → a ≡ b → option_map (λ j. a) o ≡ option_map (λ j. b) o
moved o a b e = ap (λ k. option_map (λ (j : Json). k) o) e

pub item_spot_more : (start n : ℕ) (j : Json) (more : Items) → item_spot start (suc n) (item j more) ≡ item_spot (start + length (json_tokens j)) n more
item_spot_more start n j more = moved (get_item n more) _ _ (omega arith)

pub item_spot_first : (start : ℕ) (j : Json) (more : Items) → Some start ≡ item_spot start 0 (item j more)
item_spot_first start j more = let e : start ≡ start + 0 = omega arith in ap Some e

-- ---- the members

abbrev name_of : Token → List ℕ
name_of begin_object = []
name_of end_object = []
name_of begin_array = []
name_of end_array = []
name_of (key s) = s
name_of (token.string s) = []
name_of (token.number s) = []
name_of (token.boolean b) = []
name_of token.null = []
name_of token.bad = []

abbrev pub is_name : Token → Bool
is_name begin_object = false
is_name end_object = false
is_name begin_array = false
is_name end_array = false
is_name (key s) = true
is_name (token.string s) = false
is_name (token.number s) = false
is_name (token.boolean b) = false
is_name token.null = false
is_name token.bad = false

pub no_name : (n : Node) → ((s : Bor (List ℕ)) → n ≡ Key s → ⊥) → is_name (node_token n) ≡ false
no_name (Object a) p = refl
no_name EndObject p = refl
no_name (Array a) p = refl
no_name EndArray p = refl
no_name (Key s) p = absurd (p s refl)
no_name (String s) p = refl
no_name (Number s) p = refl
no_name (Truth b) p = refl
no_name Null p = refl

pub members_end : (t : Token) (ts : List Token) (ms : Members) → is_name t ≡ false → SpellMembers (t ∷ ts) ms → ms ≡ no_members
members_end t ts no_members p h = refl
members_end t ts (member k j ms) p h = absurd (true≢false (sym (ap (λ l. is_name (first_of l)) h.1) ∙ p))

pub members_short : (ts : List Token) (ms : Members) → length ts ≤ 1 → SpellMembers ts ms → ms ≡ no_members
members_short ts no_members p h = refl
members_short ts (member k j ms) p h =
    absurd (omega (arith, p, some_tokens j, ap length h.1, length-append (json_tokens j ++ members_tokens ms) h.0, length-append (json_tokens j) (members_tokens ms), some_end ms))
  where
    some_end : (ms : Members) → 0 < length (members_tokens ms)
    some_end no_members = omega arith
    some_end (member k j ms) = omega arith

abbrev pub FirstMember : List ℕ → List Token → Members → Type 0
FirstMember k ts ms = (j : Json) × (more : Members) × (rest : List Token) × (ms ≡ member k j more) × (ts ≡ json_tokens j ++ (members_tokens more ++ rest))

pub members_more : (k : List ℕ) (ts : List Token) (ms : Members) → SpellMembers (key k ∷ ts) ms → FirstMember k ts ms
members_more k ts no_members h = absurd (true≢false (ap (λ l. is_name (first_of l)) h.1))
members_more k ts (member l j ms) h =
    (j, ms, h.0, ap (λ s. member s j ms) (sym (ap (λ l. name_of (first_of l)) h.1)), ap left_of h.1 ∙ append_assoc (json_tokens j) (members_tokens ms) h.0)

abbrev pub found_if : Bool → ℕ → Option ℕ → Option ℕ
found_if true n o = Some n
found_if false n o = o

pub found_or : (b : Bool) (n : ℕ) (o : Option ℕ) → found_if b n o ≡ cond b (Some n) o
found_or true n o = refl
found_or false n o = refl

or_found_if : (a : Option ℕ) (b : Bool) (n : ℕ) (o : Option ℕ) → or_found (or_found a (cond b (Some n) None)) o ≡ or_found a (found_if b n o)
or_found_if None true n o = refl
or_found_if None false n o = refl
or_found_if (Some k) b n o = refl

here_or_later : (start : ℕ) (b : Bool) (j : Json) (len rest : ℕ) (o : Option Json)
    → option_map (λ i. start + behind o (suc (len + rest))) (later_or o (cond b (Some j) None)) ≡ or_found (option_map (λ i. start + 1 + len + rest) o) (cond b (Some (start + 1)) None)
here_or_later start true j len rest None = refl
here_or_later start false j len rest None = refl
here_or_later start b j len rest (Some l) = let e : start + suc (len + rest) ≡ start + 1 + len + rest = omega arith in ap Some e

pub member_spot_more : (start : ℕ) (name k : List ℕ) (j : Json) (more : Members) (found : Option ℕ)
    → or_found (member_spot start name (member k j more)) found ≡ or_found (member_spot (start + 1 + length (json_tokens j)) name more) (found_if (bytes_eq k name) (start + 1) found)
member_spot_more start name k j more found =
    ap (λ o. or_found o found) (here_or_later start (bytes_eq k name) j (length (json_tokens j)) (before_member name more) (get_member name more))
    ∙ or_found_if (member_spot (start + 1 + length (json_tokens j)) name more) (bytes_eq k name) (start + 1) found

-- ---- a step

pub members_of : (ts : List Token) (j : Json) → true ≡ is_some (as_object j) → Spells ts j → (ms : Members) × (j ≡ object ms) × SpellMembers (drop 1 ts) ms
members_of ts null e h = absurd (true≢false e)
members_of ts (boolean b) e h = absurd (true≢false e)
members_of ts (number s) e h = absurd (true≢false e)
members_of ts (string s) e h = absurd (true≢false e)
members_of ts (array js) e h = absurd (true≢false e)
members_of ts (object ms) e h = (ms, refl, (h.0, ap (drop 1) h.1 ∙ drop_zero (members_tokens ms ++ h.0)))

pub items_of : (ts : List Token) (j : Json) → true ≡ is_some (as_array j) → Spells ts j → (js : Items) × (j ≡ array js) × SpellItems (drop 1 ts) js
items_of ts null e h = absurd (true≢false e)
items_of ts (boolean b) e h = absurd (true≢false e)
items_of ts (number s) e h = absurd (true≢false e)
items_of ts (string s) e h = absurd (true≢false e)
items_of ts (array js) e h = (js, refl, (h.0, ap (drop 1) h.1 ∙ drop_zero (items_tokens js ++ h.0)))
items_of ts (object ms) e h = absurd (true≢false e)

pub no_inside : (start : ℕ) (text : List ℕ) (j : Json) → false ≡ is_some (as_object j) → false ≡ is_some (as_array j) → None ≡ inside_spot start text j
no_inside start text null e f = refl
no_inside start text (boolean b) e f = refl
no_inside start text (number s) e f = refl
no_inside start text (string s) e f = refl
no_inside start text (array js) e f = absurd (true≢false (sym f))
no_inside start text (object ms) e f = absurd (true≢false (sym e))

pub to_member : (start : ℕ) (name : List ℕ) (ms : Members) → member_spot (start + 1) name ms ≡ inside_spot start name (object ms)
to_member start name ms = moved (get_member name ms) _ _ (omega arith)

pub to_named : (start : ℕ) (name : List ℕ) (ms : Members) → member_spot (start + 1) name ms ≡ named_spot start name (object ms)
to_named start name ms = moved (get_member name ms) _ _ (omega arith)

abbrev pub numbered_spot : ℕ → Option ℕ → Items → Option ℕ
numbered_spot start n js = option_map (λ i. start + before_numbered n js) (item_of n js)

pub to_item : (start n : ℕ) (text : List ℕ) (js : Items) → Some n ≡ unsigned_of 64 text → item_spot (start + 1) n js ≡ inside_spot start text (array js)
to_item start n text js e = moved (get_item n js) _ _ (omega arith) ∙ ap (λ o. numbered_spot start o js) e

pub no_number : (start : ℕ) (text : List ℕ) (js : Items) → None ≡ unsigned_of 64 text → None ≡ inside_spot start text (array js)
no_number start text js e = ap (λ o. numbered_spot start o js) e

-- a component without a name stays, and any other leads by its text
pub stays : (start : ℕ) (k : Kind) (text : List ℕ) (j : Json) → k ≡ kind.None → Some start ≡ step_spot start (part k text) j
stays start k text j e =
    let sum : start ≡ start + 0 = omega arith in ap Some sum ∙ ap (λ l. step_spot start (part l text) j) (sym e)

pub leads : (start : ℕ) (k : Kind) (text : List ℕ) (j : Json) → (k ≡ kind.Key) ⊎ (k ≡ kind.Index) → inside_spot start text j ≡ step_spot start (part k text) j
leads start k text j e =
    ⊎_elim (λ is. ap (λ l. step_spot start (part l text) j) (sym is)) (λ is. ap (λ l. step_spot start (part l text) j) (sym is)) e

pub some_step : (start next : ℕ) (s : Part) (j : Json) → Some next ≡ step_spot start s j → (i : Json) × (go s j ≡ Some i) × (next ≡ start + before s j)
some_step start next s j e = cases (go s j) refl e
  where
    cases : (o : Option Json) → go s j ≡ o → Some next ≡ option_map (λ i. start + before s j) o → (i : Json) × (go s j ≡ Some i) × (next ≡ start + before s j)
    cases None is h = not_found next (sym h)
    cases (Some i) is h = (i, is, Some_inj _ _ h)

pub no_step : (start : ℕ) (s : Part) (path : List Part) (j : Json) → None ≡ step_spot start s j → tokens_before (s ∷ path) j ≡ 0
no_step start s path j e = cases (go s j) e
  where
    cases : (o : Option Json) → None ≡ option_map (λ i. start + before s j) o → add_on o (before s j) (tokens_before path) ≡ 0
    cases None h = refl
    cases (Some i) h = not_found _ h

pub one_step : (s : Part) (path : List Part) (j i : Json) → go s j ≡ Some i → tokens_before (s ∷ path) j ≡ before s j + tokens_before path i
one_step s path j i e = ap (λ o. add_on o (before s j) (tokens_before path)) e
