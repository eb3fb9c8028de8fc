-- The JSON trees that spell the bodies of requests.
use Rattle.std.specs.Prelude.{◌≡◌, ◌^◌, ◌++◌, ℕ, suc, List, [], ◌∷◌, codes, nat_lt, if◌then◌else◌, Option, Some, None, is_some, option_map, option_and_then, Result, IfOk, MatchOption}
use Rattle.std.specs.declared.alloc.AllocError.{AllocError}
use Rattle.std.specs.BTreeMap.{insert_entry}
use Rattle.std.specs.Cmp.Lexicographic.{slice_cmp}
use Rattle.std.specs.Ordering.{nat_cmp}
use Rattle.serde_json.specs.Data.{Data, Items, item, no_items, Members, member, no_members}
use Rattle.serde_json.specs.Find.{get, as_array, as_null, as_number, as_object, as_str, as_u64}
use Rattle.serde_json.specs.Read.{read}
use Rattle.garde_check.specs.Body.{Content}

-- an age fits 32 bits
abbrev pub small : ℕ → Option (Option ℕ)
small n = if nat_lt n (2 ^ 32) then Some (Some n) else None

-- null is no age, and a whole number without a sign is one
abbrev pub age_in : Data → Option (Option ℕ)
age_in tree = if is_some (as_null tree) then Some None else option_and_then small (option_and_then as_u64 (as_number tree))

-- the items are texts, which come behind those that were found
abbrev pub texts_of_items : List (List ℕ) → Items → Option (List (List ℕ))
texts_of_items found no_items = Some found
texts_of_items found (item d ds) = option_and_then (λ text. texts_of_items (found ++ text ∷ []) ds) (as_str d)

-- an array of texts
abbrev pub texts_in : Data → Option (List (List ℕ))
texts_in tree = option_and_then (texts_of_items []) (as_array tree)

-- the members hold texts, which go under their names to those that were found, in the order of the names
abbrev pub entries_of_members : List (List ℕ × List ℕ) → Members → Option (List (List ℕ × List ℕ))
entries_of_members found no_members = Some found
entries_of_members found (member name d ms) =
    option_and_then (λ text. entries_of_members (insert_entry (slice_cmp nat_cmp) found name text) ms) (as_str d)

-- an object whose values are texts
abbrev pub entries_in : Data → Option (List (List ℕ × List ℕ))
entries_in tree = option_and_then (entries_of_members []) (as_object tree)

-- how many members
abbrev pub count : Members → ℕ
count no_members = 0
count (member name d ms) = suc (count ms)

-- the tree spells the body: it is an object of four members, and under these names it has what the body says
pub record IsRequest (tree : Data) (body : Content) : Type 0 where
  pub four : option_map count (as_object tree) ≡ Some 4
  pub username : option_and_then as_str (get (codes "username") tree) ≡ Some body.username
  pub age : option_and_then age_in (get (codes "age") tree) ≡ Some body.age
  pub tags : option_and_then texts_in (get (codes "tags") tree) ≡ Some body.tags
  pub addresses : option_and_then entries_in (get (codes "addresses") tree) ≡ Some body.addresses

-- what is read: none where none is there, else it is made, where there was memory for it
abbrev pub Reads : {R X : Type 0} → (R → X) → Option X → Option (Result R AllocError) → Type 0
Reads {X = X} says there result = MatchOption result (there ≡ None) (λ made. (x : X) × (there ≡ Some x) × IfOk made (λ it. says it ≡ x))

-- the bytes are read as a tree that spells the body
abbrev pub Spells : List ℕ → Content → Type 0
Spells bytes body = (tree : Data) × (read bytes ≡ Some tree) × IsRequest tree body

-- the bytes spell this body, and no other
abbrev pub SpellsJust : List ℕ → Content → Type 0
SpellsJust bytes body = Spells bytes body × ((other : Content) → Spells bytes other → other ≡ body)

-- the bytes are read as no tree, or as one that spells no body
abbrev pub SpellsNothing : List ℕ → Type 0
SpellsNothing bytes = (body : Content) → Spells bytes body → ⊥
