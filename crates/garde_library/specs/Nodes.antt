-- The nodes of a JSON value.
use Rattle.std.specs.Prelude.{◌≡◌, ◌+◌, ◌≤◌, ⊤, ℕ, ℤ, pos, negsuc, unsigned_abs, List, [], ◌∷◌, ◌++◌, length, take, drop, Bool, if◌then◌else◌, Option, Some, None, codes}
use Rattle.json.specs.Json.{Json, null, boolean, number, string, array, object, Items, no_items, item, Members, no_members, member}
use Rattle.garde_tape.specs.Number.{signed_of, unsigned_of}
use Rattle.garde_tape.specs.Reading.{item_list, member_list}
use Rattle.garde_library.specs.declared.node.Node.{Node}
use Rattle.garde_library.specs.declared.node.TheConstants as kinds
use Rattle.garde_library.specs.declared.walk.Walk.{Walk}

-- what a node says: a list of so many items or an object of so many members follows, or a value without parts. The name of a member is
-- a text.
pub data Mark : Type 0 where
  a_list : ℕ → Mark
  an_object : ℕ → Mark
  a_text : List ℕ → Mark
  a_number : List ℕ → Mark
  a_flag : Bool → Mark
  nothing : Mark

-- what the nodes of a value say, in the order of its text
abbrev mutual
  pub marks : Json → List Mark
  marks null = nothing ∷ []
  marks (boolean b) = a_flag b ∷ []
  marks (number s) = a_number s ∷ []
  marks (string s) = a_text s ∷ []
  marks (array js) = a_list (length (item_list js)) ∷ item_marks js
  marks (object ms) = an_object (length (member_list ms)) ∷ member_marks ms

  pub item_marks : Items → List Mark
  item_marks no_items = []
  item_marks (item j js) = marks j ++ item_marks js

  pub member_marks : Members → List Mark
  member_marks no_members = []
  member_marks (member k j ms) = a_text k ∷ (marks j ++ member_marks ms)

-- the same of the values of a list, and of the members of an object
abbrev pub each_marks : List Json → List Mark
each_marks [] = []
each_marks (j ∷ js) = marks j ++ each_marks js

abbrev pub pair_marks : List (List ℕ × Json) → List Mark
pair_marks [] = []
pair_marks (m ∷ ms) = a_text m.0 ∷ (marks m.1 ++ pair_marks ms)

-- what the nodes say of a sentence that details may have, and how many members they have with it
abbrev pub sentence_marks : Option (List ℕ) → List Mark
sentence_marks None = []
sentence_marks (Some s) = a_text (codes "detail") ∷ a_text s ∷ []

abbrev pub members_with : Option (List ℕ) → ℕ
members_with None = 3
members_with (Some s) = 4

-- these bytes have the text at an offset
abbrev pub LiesAt : List ℕ → ℕ → List ℕ → Type 0
LiesAt bytes at s = (at + length s ≤ length bytes) × (take (length s) (drop at bytes) ≡ s)

-- the node has this text: in the body, or in the room
abbrev pub HasText : List ℕ → List ℕ → List ℕ → Node → Type 0
HasText body room s node = LiesAt (if node.in_texts then room else body) node.value s × (node.len ≡ length s)

-- the kind of a whole number
abbrev pub whole_kind : ℤ → ℕ
whole_kind (pos n) = kinds.WHOLE
whole_kind (negsuc n) = kinds.NEGATIVE

-- The node has this number: one that is whole and fits 64 bits, with its sign or without one, as a number; any other as its text.
abbrev pub HasNumber : List ℕ → List ℕ → List ℕ → Option ℤ → Option ℕ → Node → Type 0
HasNumber body room s (Some z) unsigned node = (node.kind ≡ whole_kind z) × (node.value ≡ unsigned_abs z)
HasNumber body room s None (Some n) node = (node.kind ≡ kinds.WHOLE) × (node.value ≡ n)
HasNumber body room s None None node = (node.kind ≡ kinds.NUMBER) × HasText body room s node

-- the node says that
abbrev pub IsNode : List ℕ → List ℕ → Mark → Node → Type 0
IsNode body room (a_list n) node = (node.kind ≡ kinds.LIST) × (node.value ≡ n)
IsNode body room (an_object n) node = (node.kind ≡ kinds.OBJECT) × (node.value ≡ n)
IsNode body room (a_text s) node = (node.kind ≡ kinds.TEXT) × HasText body room s node
IsNode body room (a_number s) node = HasNumber body room s (signed_of 64 s) (unsigned_of 64 s) node
IsNode body room (a_flag b) node = node.kind ≡ (if b then kinds.TRUE else kinds.FALSE)
IsNode body room nothing node = node.kind ≡ kinds.NULL

-- each node says what is listed
abbrev pub AreNodes : List ℕ → List ℕ → List Mark → List Node → Type 0
AreNodes body room [] [] = ⊤
AreNodes body room [] (n ∷ ns) = ⊥
AreNodes body room (m ∷ ms) [] = ⊥
AreNodes body room (m ∷ ms) (n ∷ ns) = IsNode body room m n × AreNodes body room ms ns

-- the nodes spell a value, with texts in the body and in the room
abbrev pub Spells : List ℕ → List ℕ → List Node → Json → Type 0
Spells body room nodes j = AreNodes body room (marks j) nodes

-- what is said is added to the nodes, and the room for texts may grow
abbrev pub Adds : List Mark → List ℕ → List Node → List ℕ → List Node → List ℕ → Type 0
Adds ms body nodes room nodes' room' =
    (before : List Mark) → AreNodes body room before nodes → AreNodes body room' (before ++ ms) nodes'

-- the same of a walk, which goes over the same body
pub record AreAdded (ms : List Mark) (old new : Walk) : Type 0 where
  pub body : new.body ≡ old.body
  pub nodes : Adds ms old.body.now old.nodes.items old.room.items new.nodes.items new.room.items
