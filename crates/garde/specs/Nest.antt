-- The visits of a value that holds values of its own type.
use Prim.Native.String.{String as Literal}
use Rattle.std.specs.Prelude.{ℕ, zero, suc, nat_lt, ◌<◌, ◌↔◌, List, String, Vec, codes, map, string_bytes}
use Rattle.std.specs.BTreeMap.{BTreeMap}
use Rattle.std.specs.List.{Contains}
use Rattle.garde_report.specs.Part.{Part, index_part, key_part}
use Rattle.garde_report.specs.declared.error.component.Kind.TheVariants as kinds
use Rattle.garde_rules.specs.Inner.{key_place, component_items}
use Rattle.garde.specs.Tree.{Tree}
use Rattle.garde.specs.Visits.{Visits, under, entries, none, when, ◌and◌}

-- the visits of a value, where those of the values in it go down to this depth
unfoldable pub visits_to_depth : {A : Type 0} → ((A → Visits) → A → Visits) → (A → ℕ) → ℕ → A → Visits
visits_to_depth level size zero v = none
visits_to_depth level size (suc depth) v = level (λ x. when (nat_lt (size x) (size v)) (visits_to_depth level size depth x)) v

-- The visits of a value, where `level` builds them from those of the values in it. Of each value in it the size has to be
-- smaller: what is not smaller is left out. A `Nest` holds the proof that nothing is.
unfoldable pub recursive_visits : {A : Type 0} → ((A → Visits) → A → Visits) → (A → ℕ) → A → Visits
recursive_visits level size v = visits_to_depth level size (suc (size v)) v

-- the visits of a value in this one
unfoldable pub child_visits : {A : Type 0} → ((A → Visits) → A → Visits) → (A → ℕ) → A → A → Visits
child_visits level size v x = when (nat_lt (size x) (size v)) (recursive_visits level size x)

-- What a value is made of that holds values of its own type in one of its fields.
pub record Nest (A C : Type 0) : Type 1 where
  -- its visits under a context, without the values of its own type in it
  pub own : A → C → Visits
  -- the name of the field that holds these
  pub name : Literal
  -- these, each with its component
  pub children : A → List (Part × A)
  -- a number that is smaller for each of them
  pub size : A → ℕ
  -- the proof that it is
  pub smaller : (v : A) (k : Part) (x : A) → Contains (children v) (k, x) → size x < size v

-- from the visits of the values in it: first its own, and then in the field each of these, under its component
abbrev pub nest_level : {A C : Type 0} → Nest A C → C → (A → Visits) → A → Visits
nest_level nest c inside v =
    nest.own v c
    and under (key_part (codes nest.name)) (entries (λ k. k) inside (nest.children v))

-- the visits of such a value
abbrev pub nest_visits : {A C : Type 0} → Nest A C → A → C → Visits
nest_visits nest v c = recursive_visits (nest_level nest c) nest.size v

-- The trees of such a value are those of its own visits, and then in the field those of each value in it. No depth and no
-- size is in this: nothing is left out.
abbrev pub NestLaw : {A C : Type 0} → Nest A C → Type 0
NestLaw {A} {C} nest = (v : A) (c : C) (t : Tree) → (nest_visits nest v c).trees t
    ↔ (nest.own v c and under (key_part (codes nest.name)) (entries (λ k. k) (λ x. nest_visits nest x c) (nest.children v))).trees t

-- the items of a `Vec`, each with its index, and the values of a `BTreeMap`, each with its key that is a text
abbrev pub in_vec : {A Z : Type 0} → Vec A Z → List (Part × A)
in_vec v = component_items index_part v.items

abbrev pub in_map : {A Z : Type 0} → BTreeMap (String Z) A → List (Part × A)
in_map v = component_items (key_place kinds.Key string_bytes v.entries) (map (λ e. e.1) v.entries)
