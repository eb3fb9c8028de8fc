-- JSON values that are kept as what they were.
use Rattle.std.specs.Prelude.{◌≡◌, ℕ, List, [], map, Some, None}
use Rattle.std.specs.Borrow.{Bor}
use Rattle.json.specs.Json.{Json, null, boolean, number, string, array, object, Items, Members}
use Rattle.json.specs.Value.{value_view}
use Rattle.json.specs.declared.value.Value.{Value}
use Rattle.garde_tape.specs.Reading.{item_list, member_list}
use Rattle.garde.specs.Visits.{found, may_allocate}
use Rattle.garde_schema.specs.Spelling.{Spelling}
use Rattle.garde_schema.specs.declared.kept.copy.Part.{Part}
use Rattle.garde_schema.specs.declared.kept.copy.Part.TheVariants as parts

-- the value is of this kind, with this in it
abbrev pub IsPart : Part → Json → Type 0
IsPart parts.Null j = j ≡ null
IsPart (parts.Bool held) j = j ≡ boolean held
IsPart (parts.Number text) j = j ≡ number text.now
IsPart (parts.Text text) j = j ≡ string text.now
IsPart (parts.List items) j = (js : Items) × (j ≡ array js) × (items ≡ item_list js)
IsPart (parts.Object members) j = (ms : Members) × (j ≡ object ms) × (members ≡ member_list ms)

-- the values of items, and the names and values of members
abbrev pub views_of : {A : Type 0} → List (Value A) → List Json
views_of vs = map (λ v. value_view v) vs

abbrev pub member_views : {A : Type 0} → List (Bor (List ℕ) × Value A) → List (List ℕ × Json)
member_views ms = map (λ m. (m.0.now, value_view m.1)) ms

-- what JSON spells of any value: the value itself
abbrev pub any_value : Spelling Json
any_value = record { value = λ j. Some j; visits = λ texts j. may_allocate (found None) }
