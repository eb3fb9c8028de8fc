-- The items of a list, and their values.
use Rattle.std.specs.Prelude.{List, [], ◌∷◌, ◌++◌, Option, Some, None, option_map}
use Rattle.json.specs.Json.{Json}
use Rattle.json.specs.Find.{as_array}
use Rattle.garde_tape.specs.Reading.{item_list}
use Rattle.garde.specs.Visits.{Visits, items, may_allocate}

-- the items of a list, where the value is one
abbrev pub list_of : Json → Option (List Json)
list_of j = option_map item_list (as_array j)

-- what is asked of each item, under its index: a value that is read is kept in memory
abbrev pub each_item : (Json → Visits) → List Json → Visits
each_item each js = items (λ j. may_allocate (each j)) js

-- a value before those of a list, where both are there
abbrev pub with_first : {A : Type 0} → Option A → Option (List A) → Option (List A)
with_first (Some x) (Some xs) = Some (x ∷ xs)
with_first (Some x) None = None
with_first None xs = None

-- the values of all, where each has one
abbrev pub all_values : {A B : Type 0} → (B → Option A) → List B → Option (List A)
all_values value [] = Some []
all_values value (x ∷ xs) = with_first (value x) (all_values value xs)

-- a value behind those of a list, where both are there
abbrev pub with_last : {A : Type 0} → Option (List A) → Option A → Option (List A)
with_last (Some xs) (Some x) = Some (xs ++ x ∷ [])
with_last (Some xs) None = None
with_last None x = None
