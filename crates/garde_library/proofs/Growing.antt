-- Nodes that are added, and room that grows.
use Rattle.std.proofs.Common.{◌≡◌, ℕ, ℤ, ◌+◌, ◌≤◌, List, [], ◌∷◌, ◌++◌, length, take, drop, Bool, true, false, Option, Some, None, refl, sym, ap, ap₂, ◌∙◌, subst, arith, length-append, take_all, append-nil, append_assoc, suc, ◌<◌, ◌*◌}
use Rattle.std.specs.Prelude.{if◌then◌else◌, unsigned_abs}
use Rattle.std.proofs.lemmas.List.{take-append-le, drop-append-le, length-drop}
use Rattle.std.proofs.Math.Seq.{drop-append_seam}
use Rattle.json.specs.Tree.{json_tokens, items_tokens, members_tokens}
use Rattle.std.specs.Borrow.{Bor}
use Rattle.std.specs.Prelude.{IfSome, option_map}
use Rattle.json.specs.Find.{as_array, as_object, as_bool, as_str, as_number}
use Rattle.json.proofs.Found.{not_found, Some_inj}
use Rattle.json.specs.Json.{Json, null, boolean, number, string, array, object, Items, no_items, item, Members, no_members, member}
use Rattle.garde_tape.specs.Reading.{item_list, member_list}
use Rattle.garde_tape.specs.Number.{signed_of, unsigned_of}
use Rattle.garde_library.specs.declared.node.Node.{Node}
use Rattle.garde_library.specs.Nodes.{Mark, a_list, an_object, a_text, a_number, a_flag, nothing, marks, item_marks, member_marks, each_marks, pair_marks, LiesAt, HasText, HasNumber, IsNode, AreNodes, Adds, whole_kind}
use Rattle.garde_library.specs.declared.node.TheConstants as kinds

-- what lies in bytes lies in more bytes
lies_more : (bytes more s : List ℕ) (at : ℕ) → LiesAt bytes at s → LiesAt (bytes ++ more) at s
lies_more bytes more s at h =
    let within : at + length s ≤ length (bytes ++ more) = omega (arith, h.0, length-append bytes more) in
    let first : at ≤ length bytes = omega (arith, h.0) in
    let rest : length s ≤ length (drop at bytes) = omega (arith, h.0, length-drop at bytes) in
    (within, ap (take (length s)) (drop-append-le at bytes more first) ∙ take-append-le (length s) (drop at bytes) more rest ∙ h.1)

text_more : (body room more s : List ℕ) (b : Bool) (at : ℕ) → LiesAt (if b then room else body) at s → LiesAt (if b then room ++ more else body) at s
text_more body room more s true at h = lies_more room more s at h
text_more body room more s false at h = h

number_more : (body room more s : List ℕ) (z : Option ℤ) (u : Option ℕ) (n : Node) → HasNumber body room s z u n → HasNumber body (room ++ more) s z u n
number_more body room more s (Some z) u n h = h
number_more body room more s None (Some k) n h = h
number_more body room more s None None n h = (h.0, (text_more body room more s n.in_texts n.value h.1.0, h.1.1))

node_more : (body room more : List ℕ) (m : Mark) (n : Node) → IsNode body room m n → IsNode body (room ++ more) m n
node_more body room more (a_list k) n h = h
node_more body room more (an_object k) n h = h
node_more body room more (a_text s) n h = (h.0, (text_more body room more s n.in_texts n.value h.1.0, h.1.1))
node_more body room more (a_number s) n h = number_more body room more s (signed_of 64 s) (unsigned_of 64 s) n h
node_more body room more (a_flag b) n h = h
node_more body room more nothing n h = h

-- the nodes are kept where the room grows
pub nodes_more : (body room more : List ℕ) (ms : List Mark) (ns : List Node) → AreNodes body room ms ns → AreNodes body (room ++ more) ms ns
nodes_more body room more [] [] h = h
nodes_more body room more [] (n ∷ ns) h = h
nodes_more body room more (m ∷ ms) [] h = h
nodes_more body room more (m ∷ ms) (n ∷ ns) h = (node_more body room more m n h.0, nodes_more body room more ms ns h.1)

-- one node more
pub nodes_one : (body room : List ℕ) (ms : List Mark) (ns : List Node) (m : Mark) (n : Node) → AreNodes body room ms ns → IsNode body room m n → AreNodes body room (ms ++ m ∷ []) (ns ++ n ∷ [])
nodes_one body room [] [] m n h is = (is, tt)
nodes_one body room [] (k ∷ ns) m n h is = absurd h
nodes_one body room (k ∷ ms) [] m n h is = absurd h
nodes_one body room (k ∷ ms) (l ∷ ns) m n h is = (h.0, nodes_one body room ms ns m n h.1 is)

-- a text that was put at the end of the room lies there
pub lies_last : (room s : List ℕ) → LiesAt (room ++ s) (length room) s
lies_last room s =
    let within : length room + length s ≤ length (room ++ s) = omega (arith, length-append room s) in
    (within, ap (take (length s)) (drop-append_seam room s) ∙ take_all (length s) s (omega arith))

pub each_items : (js : Items) → each_marks (item_list js) ≡ item_marks js
each_items no_items = refl
each_items (item j js) = ap (λ ms. marks j ++ ms) (each_items js)

pub pair_members : (ms : Members) → pair_marks (member_list ms) ≡ member_marks ms
pair_members no_members = refl
pair_members (member k j ms) = ap (λ rest. a_text k ∷ (marks j ++ rest)) (pair_members ms)

-- a node behind the others says one thing more
pub one_added : (body room more room' : List ℕ) (nodes nodes' : List Node) (m : Mark) (n : Node) → nodes' ≡ nodes ++ n ∷ [] → room' ≡ room ++ more → IsNode body room' m n → Adds (m ∷ []) body nodes room nodes' room'
one_added body room more room' nodes nodes' m n ns r is = λ before h.
    subst (AreNodes body room' (before ++ m ∷ [])) (sym ns)
    (nodes_one body room' before nodes m n (subst (λ bytes. AreNodes body bytes before nodes) (sym r) (nodes_more body room more before nodes h)) is)

-- the same where the room stays as it is
pub plain_added : (body room room' : List ℕ) (nodes nodes' : List Node) (m : Mark) (n : Node) → nodes' ≡ nodes ++ n ∷ [] → room' ≡ room → IsNode body room' m n → Adds (m ∷ []) body nodes room nodes' room'
plain_added body room room' nodes nodes' m n ns r is = one_added body room [] room' nodes nodes' m n ns (r ∙ sym (append-nil room)) is

-- a whole number that fits 64 bits with its sign, and one that does without a sign
pub signed_node : (body room s : List ℕ) (z : ℤ) (n : Node) → signed_of 64 s ≡ Some z → n.kind ≡ whole_kind z → n.value ≡ unsigned_abs z → IsNode body room (a_number s) n
signed_node body room s z n e k v = subst (λ o. HasNumber body room s o (unsigned_of 64 s) n) (sym e) (k, v)

pub unsigned_node : (body room s : List ℕ) (u : ℕ) (n : Node) → signed_of 64 s ≡ None → unsigned_of 64 s ≡ Some u → n.kind ≡ kinds.WHOLE → n.value ≡ u → IsNode body room (a_number s) n
unsigned_node body room s u n z e k v =
    subst (λ o. HasNumber body room s o (unsigned_of 64 s) n) (sym z) (subst (λ o. HasNumber body room s None o n) (sym e) (k, v))

-- any other
pub other_node : (body room s : List ℕ) (n : Node) → signed_of 64 s ≡ None → unsigned_of 64 s ≡ None → n.kind ≡ kinds.NUMBER → HasText body room s n → IsNode body room (a_number s) n
other_node body room s n z u k h =
    subst (λ o. HasNumber body room s o (unsigned_of 64 s) n) (sym z) (subst (λ o. HasNumber body room s None o n) (sym u) (k, h))

-- what is added in turn
pub then_added : (ms ms' : List Mark) (body : List ℕ) (nodes nodes' nodes'' : List Node) (room room' room'' : List ℕ) → Adds ms body nodes room nodes' room' → Adds ms' body nodes' room' nodes'' room'' → Adds (ms ++ ms') body nodes room nodes'' room''
then_added ms ms' body nodes nodes' nodes'' room room' room'' f g = λ before h.
    subst (λ all. AreNodes body room'' all nodes'') (append_assoc before ms ms') (g (before ++ ms) (f before h))

pub none_added : (body : List ℕ) (nodes : List Node) (room : List ℕ) → Adds [] body nodes room nodes room
none_added body nodes room = λ before h. subst (λ all. AreNodes body room all nodes) (sym (append-nil before)) h

-- how many tokens the values of a list have, and the members of an object
abbrev pub each_size : List Json → ℕ
each_size [] = 0
each_size (j ∷ js) = length (json_tokens j) + each_size js

abbrev pub pair_size : List (List ℕ × Json) → ℕ
pair_size [] = 0
pair_size (m ∷ ms) = length (json_tokens m.1) + pair_size ms

items_size : (js : Items) → each_size (item_list js) < length (items_tokens js)
items_size no_items = omega arith
items_size (item j js) = omega (arith, items_size js, length-append (json_tokens j) (items_tokens js))

members_size : (ms : Members) → pair_size (member_list ms) < length (members_tokens ms)
members_size no_members = omega arith
members_size (member k j ms) = omega (arith, members_size ms, length-append (json_tokens j) (members_tokens ms))

-- they are fewer than those of the list or the object
pub items_smaller : (js : Items) → suc (2 * each_size (item_list js)) < 2 * length (json_tokens (array js))
items_smaller js = omega (arith, items_size js)

pub members_smaller : (ms : Members) → suc (2 * pair_size (member_list ms)) < 2 * length (json_tokens (object ms))
members_smaller ms = omega (arith, members_size ms)

-- What is added so far and the values that are left are all values; and the same of members.
abbrev pub EachUpTo : List Json → List Json → Bor (List ℕ) → Bor (List ℕ) → List Node → List ℕ → List Node → List ℕ → Type 0
EachUpTo left all body body' nodes room nodes' room' =
    (done : List Mark) × (done ++ each_marks left ≡ each_marks all) × Adds done body.now nodes room nodes' room' × (body' ≡ body) × (each_size left ≤ each_size all)

abbrev pub PairsUpTo : List (List ℕ × Json) → List (List ℕ × Json) → Bor (List ℕ) → Bor (List ℕ) → List Node → List ℕ → List Node → List ℕ → Type 0
PairsUpTo left all body body' nodes room nodes' room' =
    (done : List Mark) × (done ++ pair_marks left ≡ pair_marks all) × Adds done body.now nodes room nodes' room' × (body' ≡ body) × (pair_size left ≤ pair_size all)

pub value_added : (j : Json) (left left' all : List Json) (body body' body'' : Bor (List ℕ)) (nodes nodes' nodes'' : List Node) (room room' room'' : List ℕ)
    → left ≡ j ∷ left' → EachUpTo left all body body' nodes room nodes' room' → Adds (marks j) body'.now nodes' room' nodes'' room'' → body'' ≡ body'
    → EachUpTo left' all body body'' nodes room nodes'' room''
value_added j left left' all body body' body'' nodes nodes' nodes'' room room' room'' e inv adds b =
    let size : each_size (j ∷ left') ≤ each_size all = subst (λ xs. each_size xs ≤ each_size all) e inv.4 in (
      inv.0 ++ marks j,
      append_assoc inv.0 (marks j) (each_marks left') ∙ ap (λ xs. inv.0 ++ each_marks xs) (sym e) ∙ inv.1,
      then_added inv.0 (marks j) body.now nodes nodes' nodes'' room room' room'' inv.2 (subst (λ (at : Bor (List ℕ)). Adds (marks j) at.now nodes' room' nodes'' room'') inv.3 adds),
      b ∙ inv.3,
      omega (arith, size),
    )

pub member_added : (m : List ℕ × Json) (left left' all : List (List ℕ × Json)) (body body' body'' body''' : Bor (List ℕ)) (nodes nodes' named nodes'' : List Node) (room room' room'' room''' : List ℕ)
    → left ≡ m ∷ left' → PairsUpTo left all body body' nodes room nodes' room' → Adds (a_text m.0 ∷ []) body'.now nodes' room' named room'' → body'' ≡ body' → Adds (marks m.1) body''.now named room'' nodes'' room''' → body''' ≡ body''
    → PairsUpTo left' all body body''' nodes room nodes'' room'''
member_added m left left' all body body' body'' body''' nodes nodes' named nodes'' room room' room'' room''' e inv name b value b' =
    let size : pair_size (m ∷ left') ≤ pair_size all = subst (λ xs. pair_size xs ≤ pair_size all) e inv.4 in
    let named_too = subst (λ (at : Bor (List ℕ)). Adds (a_text m.0 ∷ []) at.now nodes' room' named room'') inv.3 name in
    let valued = subst (λ (at : Bor (List ℕ)). Adds (marks m.1) at.now named room'' nodes'' room''') (b ∙ inv.3) value in (
      inv.0 ++ (a_text m.0 ∷ marks m.1),
      append_assoc inv.0 (a_text m.0 ∷ marks m.1) (pair_marks left') ∙ ap (λ xs. inv.0 ++ pair_marks xs) (sym e) ∙ inv.1,
      then_added inv.0 (a_text m.0 ∷ marks m.1) body.now nodes nodes' nodes'' room room' room''' inv.2
          (then_added (a_text m.0 ∷ []) (marks m.1) body.now nodes' named nodes'' room' room'' room''' named_too valued),
      b' ∙ (b ∙ inv.3),
      omega (arith, size),
    )

-- a value with items is a list
pub is_list : (j : Json) (items : List Json) → Some items ≡ option_map item_list (as_array j) → (js : Items) × (j ≡ array js) × (items ≡ item_list js)
is_list null items e = not_found items (sym e)
is_list (boolean b) items e = not_found items (sym e)
is_list (number s) items e = not_found items (sym e)
is_list (string s) items e = not_found items (sym e)
is_list (array js) items e = (js, refl, Some_inj _ _ e)
is_list (object ms) items e = not_found items (sym e)

pub is_object : (j : Json) (members : List (List ℕ × Json)) → Some members ≡ option_map member_list (as_object j) → (ms : Members) × (j ≡ object ms) × (members ≡ member_list ms)
is_object null members e = not_found members (sym e)
is_object (boolean b) members e = not_found members (sym e)
is_object (number s) members e = not_found members (sym e)
is_object (string s) members e = not_found members (sym e)
is_object (array js) members e = not_found members (sym e)
is_object (object ms) members e = (ms, refl, Some_inj _ _ e)

-- what is added of it is smaller
pub list_smaller : (j : Json) (items : List Json) → Some items ≡ option_map item_list (as_array j) → suc (2 * each_size items) < 2 * length (json_tokens j)
list_smaller j items e =
    let l = is_list j items e in
    subst (λ x. suc (2 * each_size items) < 2 * length (json_tokens x)) (sym l.1) (subst (λ xs. suc (2 * each_size xs) < 2 * length (json_tokens (array l.0))) (sym l.2) (items_smaller l.0))

pub object_smaller : (j : Json) (members : List (List ℕ × Json)) → Some members ≡ option_map member_list (as_object j) → suc (2 * pair_size members) < 2 * length (json_tokens j)
object_smaller j members e =
    let l = is_object j members e in
    subst (λ x. suc (2 * pair_size members) < 2 * length (json_tokens x)) (sym l.1) (subst (λ xs. suc (2 * pair_size xs) < 2 * length (json_tokens (object l.0))) (sym l.2) (members_smaller l.0))

-- the node of a list, and its items
list_marks : (j : Json) (items : List Json) (count : ℕ) → Some items ≡ option_map item_list (as_array j) → IfSome (as_array j) (λ js. count ≡ length (item_list js)) → a_list count ∷ each_marks items ≡ marks j
list_marks null items count e c = not_found items (sym e)
list_marks (boolean b) items count e c = not_found items (sym e)
list_marks (number s) items count e c = not_found items (sym e)
list_marks (string s) items count e c = not_found items (sym e)
list_marks (array js) items count e c = ap₂ (λ n ms. a_list n ∷ ms) c (ap each_marks (Some_inj _ _ e) ∙ each_items js)
list_marks (object ms) items count e c = not_found items (sym e)

object_marks : (j : Json) (members : List (List ℕ × Json)) (count : ℕ) → Some members ≡ option_map member_list (as_object j) → IfSome (as_object j) (λ ms. count ≡ length (member_list ms)) → an_object count ∷ pair_marks members ≡ marks j
object_marks null members count e c = not_found members (sym e)
object_marks (boolean b) members count e c = not_found members (sym e)
object_marks (number s) members count e c = not_found members (sym e)
object_marks (string s) members count e c = not_found members (sym e)
object_marks (array js) members count e c = not_found members (sym e)
object_marks (object ms) members count e c = ap₂ (λ n ps. an_object n ∷ ps) c (ap pair_marks (Some_inj _ _ e) ∙ pair_members ms)

pub list_added : (j : Json) (items : List Json) (count : ℕ) (body body' : Bor (List ℕ)) (nodes nodes' nodes'' : List Node) (room room' room'' : List ℕ)
    → Some items ≡ option_map item_list (as_array j) → IfSome (as_array j) (λ js. count ≡ length (item_list js))
    → ((n : Node) × (n.kind ≡ kinds.LIST) × (n.value ≡ count) × (nodes' ≡ nodes ++ n ∷ [])) → body' ≡ body → room' ≡ room
    → Adds (each_marks items) body'.now nodes' room' nodes'' room'' → Adds (marks j) body.now nodes room nodes'' room''
list_added j items count body body' nodes nodes' nodes'' room room' room'' e c n b r adds =
    subst (λ ms. Adds ms body.now nodes room nodes'' room'') (list_marks j items count e c)
    (then_added (a_list count ∷ []) (each_marks items) body.now nodes nodes' nodes'' room room' room''
    (plain_added body.now room room' nodes nodes' (a_list count) n.0 n.3 r (n.1, n.2))
    (subst (λ (at : Bor (List ℕ)). Adds (each_marks items) at.now nodes' room' nodes'' room'') b adds))

pub object_added : (j : Json) (members : List (List ℕ × Json)) (count : ℕ) (body body' : Bor (List ℕ)) (nodes nodes' nodes'' : List Node) (room room' room'' : List ℕ)
    → Some members ≡ option_map member_list (as_object j) → IfSome (as_object j) (λ ms. count ≡ length (member_list ms))
    → ((n : Node) × (n.kind ≡ kinds.OBJECT) × (n.value ≡ count) × (nodes' ≡ nodes ++ n ∷ [])) → body' ≡ body → room' ≡ room
    → Adds (pair_marks members) body'.now nodes' room' nodes'' room'' → Adds (marks j) body.now nodes room nodes'' room''
object_added j members count body body' nodes nodes' nodes'' room room' room'' e c n b r adds =
    subst (λ ms. Adds ms body.now nodes room nodes'' room'') (object_marks j members count e c)
    (then_added (an_object count ∷ []) (pair_marks members) body.now nodes nodes' nodes'' room room' room''
    (plain_added body.now room room' nodes nodes' (an_object count) n.0 n.3 r (n.1, n.2))
    (subst (λ (at : Bor (List ℕ)). Adds (pair_marks members) at.now nodes' room' nodes'' room'') b adds))

-- what says `true`, `false` or, where nothing else is found, `null`
pub flag_marks : (j : Json) (b : Bool) → Some b ≡ as_bool j → a_flag b ∷ [] ≡ marks j
flag_marks null b e = not_found b (sym e)
flag_marks (boolean b') b e = ap (λ x. a_flag x ∷ []) (Some_inj _ _ e)
flag_marks (number s) b e = not_found b (sym e)
flag_marks (string s) b e = not_found b (sym e)
flag_marks (array js) b e = not_found b (sym e)
flag_marks (object ms) b e = not_found b (sym e)

pub null_marks : (j : Json) → None ≡ option_map item_list (as_array j) → None ≡ option_map member_list (as_object j) → as_str j ≡ None → as_number j ≡ None → None ≡ as_bool j → nothing ∷ [] ≡ marks j
null_marks null a o s n b = refl
null_marks (boolean b') a o s n b = not_found b' b
null_marks (number t) a o s n b = not_found t (sym n)
null_marks (string t) a o s n b = not_found t (sym s)
null_marks (array js) a o s n b = not_found (item_list js) a
null_marks (object ms) a o s n b = not_found (member_list ms) o
