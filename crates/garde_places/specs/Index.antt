-- The names of wide objects.
use Rattle.std.specs.Prelude.{◌≡◌, ℕ, List, drop, Option, IfSome, IsSome}
use Rattle.std.specs.Borrow.{Bor}
use Rattle.std.specs.BTreeMap.{BTreeMap, get, get_by}
use Rattle.std.specs.Cmp.Lexicographic.{slice_cmp}
use Rattle.std.specs.Ordering.{nat_cmp}
use Rattle.json.specs.Token.{Token}
use Rattle.json.specs.Json.{Members}
use Rattle.garde_places.specs.declared.index.Index.{Index}
use Rattle.garde_places.specs.Steps.{SpellMembers, member_spot}

abbrev pub Names : Type 0
Names = BTreeMap (Bor (List ℕ)) ℕ

-- what the names have for one of them
abbrev pub named : Names → List ℕ → Option ℕ
named names name = get_by (λ k. slice_cmp nat_cmp name k.now) names

-- for each name it is the value of the last member of that name, of the members that begin at a token
abbrev pub AreNames : List Token → ℕ → Names → Type 0
AreNames ts at names = (ms : Members) → SpellMembers (drop at ts) ms → (name : List ℕ) → named names name ≡ member_spot at name ms

-- these are the names of objects of these tokens, by the token of the first name
abbrev pub AllNames : List Token → BTreeMap ℕ Names → Type 0
AllNames ts objects = (at : ℕ) → IfSome (get nat_cmp objects at) (AreNames ts at)

abbrev pub IndexHolds : List Token → Index → Type 0
IndexHolds ts index = AllNames ts index.wide

-- the names of the members that begin at a token are listed
abbrev pub Knows : Index → ℕ → Type 0
Knows index at = IsSome (get nat_cmp index.wide at)
