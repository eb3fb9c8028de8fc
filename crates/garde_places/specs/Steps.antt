-- Where a path leads inside a value.
use Rattle.std.specs.Prelude.{◌≡◌, ℕ, zero, suc, ◌+◌, ◌-◌, List, [], ◌∷◌, ◌++◌, ◌⊎◌, length, Bool, true, false, Option, Some, None, option_map}
use Rattle.json.specs.Token.{Token}
use Rattle.json.specs.Json.{Json, null, boolean, number, string, array, object, Items, no_items, item, Members, no_members, member}
use Rattle.json.specs.Tree.{json_tokens, items_tokens, members_tokens}
use Rattle.json.specs.Find.{get_member, get_item, get}
use Rattle.garde_report.specs.Part.{Part}
use Rattle.garde_report.specs.declared.error.component.Kind.{Kind}
use Rattle.garde_report.specs.declared.error.component.Kind.TheVariants as kind
use Rattle.garde_tape.specs.Number.{unsigned_of}

-- the item of a number, if there is a number
abbrev pub item_of : Option ℕ → Items → Option Json
item_of None js = None
item_of (Some n) js = get_item n js

-- the value that a text leads to, as a token of a JSON Pointer does: in an object the member of that name, of several the last, and
-- in an array the item of that number
abbrev pub inside : List ℕ → Json → Option Json
inside text null = None
inside text (boolean b) = None
inside text (number s) = None
inside text (string s) = None
inside text (array js) = item_of (unsigned_of 64 text) js
inside text (object ms) = get_member text ms

abbrev pub go_by : Kind → List ℕ → Json → Option Json
go_by kind.None text j = Some j
go_by kind.Key text j = inside text j
go_by kind.Index text j = inside text j

-- the value that a component leads to: one without a name stays
abbrev pub go : Part → Json → Option Json
go p j = go_by p.kind p.text j

abbrev pub go_on : Option Json → Json → (Json → Json) → Json
go_on None j more = j
go_on (Some i) j more = more i

-- the value that a path leads to, and the last one on its way where it leads to none
abbrev pub reached : List Part → Json → Json
reached [] j = j
reached (p ∷ path) j = go_on (go p j) j (reached path)

-- ---- how many tokens stand before it

-- from the first item on, before the item of this index
abbrev pub before_item : ℕ → Items → ℕ
before_item n no_items = 0
before_item zero (item j js) = 0
before_item (suc n) (item j js) = length (json_tokens j) + before_item n js

abbrev pub behind : Option Json → ℕ → ℕ
behind None n = 1
behind (Some j) n = n

-- from the first name on, before the value of the last member of this name
abbrev pub before_member : List ℕ → Members → ℕ
before_member name no_members = 0
before_member name (member k j ms) = behind (get_member name ms) (suc (length (json_tokens j) + before_member name ms))

-- from the value on, before that of the last member of this name; 0 where this is no object
abbrev pub before_named : List ℕ → Json → ℕ
before_named name null = 0
before_named name (boolean b) = 0
before_named name (number s) = 0
before_named name (string s) = 0
before_named name (array js) = 0
before_named name (object ms) = suc (before_member name ms)

abbrev pub name_behind : Option Json → ℕ → ℕ
name_behind None n = 0
name_behind (Some i) n = n - 1

-- from the value on, before the name of its last member of this name; 0 where there is none
abbrev pub before_name : List ℕ → Json → ℕ
before_name name j = name_behind (get name j) (before_named name j)

abbrev pub before_numbered : Option ℕ → Items → ℕ
before_numbered None js = 0
before_numbered (Some n) js = suc (before_item n js)

-- from the value on, before the one that a text leads to
abbrev pub before_inside : List ℕ → Json → ℕ
before_inside text null = 0
before_inside text (boolean b) = 0
before_inside text (number s) = 0
before_inside text (string s) = 0
before_inside text (array js) = before_numbered (unsigned_of 64 text) js
before_inside text (object ms) = suc (before_member text ms)

abbrev pub before_by : Kind → List ℕ → Json → ℕ
before_by kind.None text j = 0
before_by kind.Key text j = before_inside text j
before_by kind.Index text j = before_inside text j

-- from the value on, before the one that a component leads to
abbrev pub before : Part → Json → ℕ
before p j = before_by p.kind p.text j

abbrev pub add_on : Option Json → ℕ → (Json → ℕ) → ℕ
add_on None n more = 0
add_on (Some i) n more = n + more i

-- from the value on, before the one that a path leads to
abbrev pub tokens_before : List Part → Json → ℕ
tokens_before [] j = 0
tokens_before (p ∷ path) j = add_on (go p j) (before p j) (tokens_before path)

-- ---- the token at which it stands, where the items, the members or the value begin at a token

abbrev pub item_spot : ℕ → ℕ → Items → Option ℕ
item_spot start n js = option_map (λ j. start + before_item n js) (get_item n js)

abbrev pub member_spot : ℕ → List ℕ → Members → Option ℕ
member_spot start name ms = option_map (λ j. start + before_member name ms) (get_member name ms)

abbrev pub inside_spot : ℕ → List ℕ → Json → Option ℕ
inside_spot start text j = option_map (λ i. start + before_inside text j) (inside text j)

abbrev pub named_spot : ℕ → List ℕ → Json → Option ℕ
named_spot start name j = option_map (λ i. start + before_named name j) (get name j)

abbrev pub step_spot : ℕ → Part → Json → Option ℕ
step_spot start p j = option_map (λ i. start + before p j) (go p j)

-- ---- the tokens begin with a value, with items or with members

abbrev pub Spells : List Token → Json → Type 0
Spells ts j = (rest : List Token) × (ts ≡ json_tokens j ++ rest)

abbrev pub SpellItems : List Token → Items → Type 0
SpellItems ts js = (rest : List Token) × (ts ≡ items_tokens js ++ rest)

abbrev pub SpellMembers : List Token → Members → Type 0
SpellMembers ts ms = (rest : List Token) × (ts ≡ members_tokens ms ++ rest)

-- ---- the token of a value, or of the name of its member

-- the token of the name of the member that a whole path leads to; at the root, of the whole value
abbrev pub IsNameToken : List Part → Json → ℕ → Type 0
IsNameToken path j n =
    ((before : List Part) × (last : Part) × (path ≡ before ++ last ∷ []) × (n ≡ tokens_before before j + before_name last.text (reached before j)))
    ⊎ ((path ≡ []) × (n ≡ 0))

abbrev pub IsTokenBy : Bool → List Part → Json → ℕ → Type 0
IsTokenBy true path j n = IsNameToken path j n
IsTokenBy false path j n = n ≡ tokens_before path j
