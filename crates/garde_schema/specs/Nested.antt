-- Objects that hold a list of objects of the same form.
use Rattle.std.specs.Prelude.{◌≡◌, ℕ, zero, suc, nat_lt, ⊤, ◌||◌, ◌↔◌, List, Bool, Option, Some, None, Result, Ok, Err, option_map, option_and_then, if◌then◌else◌}
use Rattle.std.specs.List.{All}
use Rattle.std.specs.Str.{bytes_eq}
use Rattle.json.specs.Json.{Json}
use Rattle.json.specs.Tree.{depth}
use Rattle.json.specs.Find.{as_object}
use Rattle.garde_report.specs.Part.{key_part}
use Rattle.garde_tape.specs.Look.{kind_of, find_answer}
use Rattle.garde_tape.specs.declared.found.Found.{Found}
use Rattle.garde_tape.specs.declared.found.Found.TheVariants.{Missing, Once, Repeated}
use Rattle.garde.specs.Tree.{Tree}
use Rattle.garde.specs.Visits.{Visits, none, ◌and◌, under, when}
use Rattle.garde.specs.Nest.{recursive_visits, child_visits}
use Rattle.garde_schema.specs.declared.fault.FormFault.{FormFault}
use Rattle.garde_schema.specs.declared.fault.FormFault.TheVariants as faults
use Rattle.garde_schema.specs.declared.fault.Wanted.TheVariants as wanted
use Rattle.garde_schema.specs.Forms.{FormTexts, both, formed, refused}
use Rattle.garde_schema.specs.Lists.{all_values, each_item, list_of}
use Rattle.garde_schema.specs.Members.{members_in, unknown}

-- ---- the list in an object

-- the items of a value, where it is a list
abbrev pub listed : Json → Option (List Json) → Result (List Json) FormFault
listed v (Some js) = Ok js
listed v None = Err (faults.Wrong wanted.List (kind_of v))

abbrev pub list_found : Found → Result (List Json) FormFault
list_found Missing = Err faults.Missing
list_found (Once v) = listed v (list_of v)
list_found Repeated = Err faults.Repeated

-- the items of the list under this name, or what is wrong with the member of this name
abbrev pub list_in : List ℕ → Json → Result (List Json) FormFault
list_in name j = list_found (find_answer name j)

-- what is wrong with it, told under its name
abbrev pub list_visits : List ℕ → FormTexts → Result (List Json) FormFault → Visits
list_visits name texts (Ok js) = none
list_visits name texts (Err fault) = under (key_part name) (refused (texts fault))

abbrev pub right_list : Result (List Json) FormFault → Option (List Json)
right_list (Ok js) = Some js
right_list (Err fault) = None

-- the objects in an object: the items of the list under this name
abbrev pub below : List ℕ → Json → Option (List Json)
below name j = right_list (list_in name j)

-- ---- what is asked

-- what is asked of a value before those in it: that it is an object, then its own members, then that it has the list
abbrev pub first_visits : List ℕ → (Json → Visits) → FormTexts → Json → Visits
first_visits name own texts j = formed (texts (faults.Wrong wanted.Object (kind_of j)))
    (λ _. own j and list_visits name texts (list_in name j)) (as_object j)

-- what is asked of each of those in it, under the list's name and its index
abbrev pub below_visits : List ℕ → (Json → Visits) → Option (List Json) → Visits
below_visits name child (Some js) = under (key_part name) (each_item child js)
below_visits name child None = none

-- the names that the members have, and the list's
abbrev pub or_this : List ℕ → (List ℕ → Bool) → List ℕ → Bool
or_this name names other = names other || bytes_eq other name

-- what is asked last: where the form is closed, each further member is a fault
abbrev pub last_visits : Bool → List ℕ → (List ℕ → Bool) → FormTexts → Json → Visits
last_visits closed name names texts j = when closed (unknown (or_this name names) texts (members_in j))

-- what is asked of a value, where `child` is asked of those in it
abbrev pub level_visits : List ℕ → (Json → Visits) → (Json → Visits) → (Json → Visits) → Json → Visits
level_visits name first last child j = first j and below_visits name child (below name j) and last j

-- the same of it and of those in it, as deep as they nest
abbrev pub nested_visits : List ℕ → Bool → (FormTexts → Json → Visits) → (List ℕ → Bool) → FormTexts → Json → Visits
nested_visits name closed own names texts j =
    recursive_visits (level_visits name (first_visits name (own texts) texts) (last_visits closed name names texts)) depth j

-- ---- the value

-- a value that is made of those of the values in it, where these go down to this depth
unfoldable pub value_to_depth : {A B : Type 0} → ((A → Option B) → A → Option B) → (A → ℕ) → ℕ → A → Option B
value_to_depth level size zero v = None
value_to_depth level size (suc n) v = level (λ x. if nat_lt (size x) (size v) then value_to_depth level size n x else None) v

-- The value of one that holds others, where `level` makes it of the values of those in it. Of each of them the size has to
-- be smaller: what is not smaller has no value.
unfoldable pub recursive_value : {A B : Type 0} → ((A → Option B) → A → Option B) → (A → ℕ) → A → Option B
recursive_value level size v = value_to_depth level size (suc (size v)) v

-- the value of one in this one
unfoldable pub child_value : {A B : Type 0} → ((A → Option B) → A → Option B) → (A → ℕ) → A → A → Option B
child_value level size v x = if nat_lt (size x) (size v) then recursive_value level size x else None

-- the value of an object's own members
abbrev pub own_value : {A : Type 0} → (Json → Option A) → Json → Option A
own_value own j = option_and_then (λ _. own j) (as_object j)

-- the values of those in an object
abbrev pub below_value : {B : Type 0} → (Json → Option B) → Option (List Json) → Option (List B)
below_value child js = option_and_then (λ xs. all_values child xs) js

-- what is made of both, where both are there
abbrev pub made_of : {A B : Type 0} → (A → List B → B) → Option A → Option (List B) → Option B
made_of builds own values = option_map (λ parts. builds parts.0 parts.1) (both own values)

abbrev pub level_value : {A B : Type 0} → List ℕ → (Json → Option A) → (A → List B → B) → (Json → Option B) → Json → Option B
level_value name own builds child j = made_of builds (own j) (below_value child (below name j))

-- the value of an object of the form: it is made of that of its own members and of those of the objects in it
abbrev pub nested_value : {A B : Type 0} → List ℕ → (Json → Option A) → (A → List B → B) → Json → Option B
nested_value name own builds j = recursive_value (level_value name (own_value own) builds) depth j

-- ---- an object by its parts

-- what is asked of an object and read of it, without the objects in it
pub record Parts (A : Type 0) : Type 1 where
  -- the name of the member with the list
  pub name : List ℕ
  -- what is asked before the objects in it, and after them
  pub first : Json → Visits
  pub last : Json → Visits
  -- the value of its own members, and what the rules ask of it
  pub own : Json → Option A
  pub keeps : A → Type 0

-- what is asked of it and of those in it, and its value
abbrev pub object_visits : {A : Type 0} → Parts A → Json → Visits
object_visits parts j = recursive_visits (level_visits parts.name parts.first parts.last) depth j

abbrev pub object_value : {A B : Type 0} → (A → List B → B) → Parts A → Json → Option B
object_value builds parts j = recursive_value (level_value parts.name parts.own builds) depth j

-- the same of one in this one
abbrev pub inner_visits : {A : Type 0} → Parts A → Json → Json → Visits
inner_visits parts j x = child_visits (level_visits parts.name parts.first parts.last) depth j x

abbrev pub inner_value : {A B : Type 0} → (A → List B → B) → Parts A → Json → Json → Option B
inner_value builds parts j x = child_value (level_value parts.name parts.own builds) depth j x

-- ---- nothing is left out

-- The trees of an object are those of what is asked of it, and of each object in it under the list's name and its index, at whatever
-- depth. No depth and no size is in this.
abbrev pub VisitsWhole : List ℕ → Bool → (FormTexts → Json → Visits) → (List ℕ → Bool) → FormTexts → Json → Type 0
VisitsWhole name closed own names texts j = (t : Tree) → (nested_visits name closed own names texts j).trees t
    ↔ (level_visits name (first_visits name (own texts) texts) (last_visits closed name names texts) (nested_visits name closed own names texts) j).trees t

-- so its value is made of those of its own members and of each object in it
abbrev pub ValueWhole : {A B : Type 0} → List ℕ → (Json → Option A) → (A → List B → B) → Json → Type 0
ValueWhole name own builds j = nested_value name own builds j ≡ level_value name (own_value own) builds (nested_value name own builds) j

-- ---- what is known

-- what the rules ask of the own members is known of the value and of those in it, so many levels down
unfoldable pub KeptTo : {A B : Type 0} → (A → Type 0) → (B → A × List B) → ℕ → B → Type 0
KeptTo keeps parts_of zero v = ⊤
KeptTo keeps parts_of (suc n) v = keeps (parts_of v).0 × All (λ x. KeptTo keeps parts_of n x) (parts_of v).1

-- the same, at every level
abbrev pub Kept : {A B : Type 0} → (A → Type 0) → (B → A × List B) → B → Type 0
Kept keeps parts_of v = (n : ℕ) → KeptTo keeps parts_of n v
