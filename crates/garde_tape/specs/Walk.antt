-- What begins at a node of a JSON text.
use Rattle.std.specs.Prelude.{◌≡◌, ◌<◌, ◌+◌, ℕ, List, map, drop, length, Some, Bool, true, false}
use Rattle.json.specs.Token.{Token}
use Rattle.json.specs.Json.{Json, Items, no_items, item, Members, member, value}
use Rattle.json.specs.Find.{InItems, InMembers}
use Rattle.json.specs.Tape.{node_token, Linked}
use Rattle.json.specs.declared.tape.Node.{Node}
use Rattle.garde_tape.specs.Reading.{items_of, members_of, HasTree, HasItems, HasMembers}

-- the tokens from this node on
abbrev pub tokens_at : List Node → ℕ → List Token
tokens_at nodes at = drop at (map node_token nodes)

-- The nodes are linked, and a value begins at this one.
pub record IsTreeAt (nodes : List Node) (at : ℕ) : Type 0 where
  pub linked : Linked (map node_token nodes) 0 nodes
  pub tree : HasTree (tokens_at nodes at)

-- the same of the items up to a closing bracket
pub record AreItemsAt (nodes : List Node) (at : ℕ) : Type 0 where
  pub linked : Linked (map node_token nodes) 0 nodes
  pub items : HasItems (tokens_at nodes at)

-- the same of the members up to a closing brace
pub record AreMembersAt (nodes : List Node) (at : ℕ) : Type 0 where
  pub linked : Linked (map node_token nodes) 0 nodes
  pub members : HasMembers (tokens_at nodes at)

-- An item begins at this node, and others follow.
pub record IsItemAt (nodes : List Node) (at : ℕ) : Type 0 where
  pub depth : ℕ
  pub json : Json
  pub after : List Token
  pub others : Items
  pub value : value depth (tokens_at nodes at) ≡ Some (json, after)
  pub items : InItems after others
  pub is : items_of (tokens_at nodes at) ≡ item json others

-- whether an item begins at this node, or there is no other
abbrev pub TellsItem : List Node → ℕ → Bool → Type 0
TellsItem nodes at true = IsItemAt nodes at
TellsItem nodes at false = items_of (tokens_at nodes at) ≡ no_items

-- A member of this name begins at this node, with its value at the next one, and others follow.
pub record IsMemberAt (nodes : List Node) (at : ℕ) (name : List ℕ) : Type 0 where
  pub depth : ℕ
  pub json : Json
  pub after : List Token
  pub others : Members
  pub value : value depth (tokens_at nodes (at + 1)) ≡ Some (json, after)
  pub members : InMembers after others
  pub is : members_of (tokens_at nodes at) ≡ member name json others
  pub next : at + 1 < length nodes
