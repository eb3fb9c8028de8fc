-- The faults of a JSON value by a schema, which is a JSON value too.
use Rattle.std.specs.Prelude.{ℕ, zero, suc, ◌+◌, List, [], ◌∷◌, length, slice_index, Bool, true, false, not, nat_le, ◌==◌, ◌&&◌, ◌||◌, take, drop, if◌then◌else◌, codes, bytes_eq, Option, Some, None, option_and_then, option_map, unwrap_or}
use Rattle.json.specs.Json.{Json}
use Rattle.json.specs.Find.{as_bool, as_str}
use Rattle.garde_report.specs.Part.{Part, index_part, key_part}
use Rattle.garde_tape.specs.Look.{find_answer}
use Rattle.garde_tape.specs.declared.found.Found.{Found}
use Rattle.garde_tape.specs.declared.found.Found.TheVariants.{Missing, Once, Repeated}
use Rattle.garde.specs.Fields.{asks_as, is}
use Rattle.garde.specs.Visits.{Visits, none, ◌and◌, under, when}
use Rattle.garde_schema.specs.Forms.{FormTexts, refused}
use Rattle.garde_schema.specs.declared.fault.FormFault.TheVariants as form
use Rattle.garde_described.specs.Keywords.{above_found, among_asks, at_least, at_most, below_found, bound_asks, chars_asks, const_asks, counted, keyword_of, least_found, listed, membered, most_found, of, type_asks}
use Rattle.garde_described.specs.declared.keyword.Keyword.{Keyword}
use Rattle.garde_described.specs.declared.keyword.Keyword.TheVariants as k

-- each in turn
unfoldable pub in_turn : {A : Type 0} → (A → Visits) → List A → Visits
in_turn each [] = none
in_turn each (x ∷ xs) = each x and in_turn each xs

-- each item in turn, with its index
unfoldable pub numbered : (ℕ → Json → Visits) → ℕ → List Json → Visits
numbered each n [] = none
numbered each n (j ∷ js) = each n j and numbered each (n + 1) js

-- each item by the schema at the same place, under its index; nothing is asked where there is no more of either
unfoldable pub by_place : (Json → Json → Visits) → ℕ → List Json → List Json → Visits
by_place each n [] js = none
by_place each n (s ∷ ss) [] = none
by_place each n (s ∷ ss) (j ∷ js) = under (index_part n) (each s j) and by_place each (n + 1) ss js

-- the value of a name, where an object has it once
abbrev pub once : Found → Option Json
once Missing = None
once (Once v) = Some v
once Repeated = None

abbrev pub member_of : List ℕ → Json → Option Json
member_of name j = once (find_answer name j)

-- a reference `#/$defs/NAME` names the schema of that name, and `#NAME` the one with that `$anchor`
abbrev pub has_name : List ℕ → List ℕ → Bool
has_name text name = nat_le 8 (length text) && (bytes_eq (take 8 text) (codes "#/$defs/") && bytes_eq (drop 8 text) name)

abbrev pub has_anchor : List ℕ → Option Json → Bool
has_anchor text anchor = unwrap_or (option_map (λ name. bytes_eq (drop 1 text) name) (option_and_then as_str anchor)) false

abbrev pub is_anchor : List ℕ → Bool
is_anchor text = nat_le 2 (length text) && not (slice_index text 1 == 47)

abbrev pub names_schema : List ℕ → (List ℕ × Json) → Bool
names_schema text m = has_name text m.0 || (is_anchor text && has_anchor text (member_of (codes "$anchor") m.1))

unfoldable pub first_named : List ℕ → List (List ℕ × Json) → Option Json
first_named text [] = None
first_named text (m ∷ ms) = if names_schema text m then Some m.1 else first_named text ms

abbrev pub definition_of : Json → List ℕ → Option Json
definition_of root text = option_and_then (first_named text) (option_and_then membered (member_of (codes "$defs") root))

-- What a reference means: `#` the whole document, and else the first schema of `$defs` that it names (JSON Schema Core, 8.2).
abbrev pub target_of : Json → List ℕ → Option Json
target_of root text = if bytes_eq text (codes "#") then Some root else definition_of root text

-- what a member that is described asks, under its name, by what is found of that
abbrev pub member_asks : FormTexts → Part → (Json → Visits) → Found → Visits
member_asks texts name each Missing = none
member_asks texts name each (Once v) = under name (each v)
member_asks texts name each Repeated = under name (refused (texts form.Repeated))

-- what a name asks that has to be there, by what is found of it; and each item of `required`
abbrev pub present_asks : FormTexts → Part → Found → Visits
present_asks texts name Missing = under name (refused (texts form.Missing))
present_asks texts name (Once v) = none
present_asks texts name Repeated = none

abbrev pub required_asks : FormTexts → Json → Json → Visits
required_asks texts j name = of (λ s. present_asks texts (key_part s) (find_answer s j)) (as_str name)

-- whether the value of `properties` describes a member of this name
abbrev pub is_missing : Found → Bool
is_missing Missing = true
is_missing (Once v) = false
is_missing Repeated = false

abbrev pub is_described : Option Json → List ℕ → Bool
is_described described name = unwrap_or (option_map (λ ms. not (is_missing (find_answer name ms))) described) false

-- how many items `prefixItems` describes
abbrev pub described_items : Json → ℕ
described_items s = unwrap_or (option_map length (option_and_then listed (member_of (codes "prefixItems") s))) 0

-- what the keywords ask that hold schemas, where this is what a schema asks of a value
module _ (each : Json → Json → Visits) where
  -- `properties`: each member that is there by the schema of its name
  abbrev pub properties_asks : FormTexts → Json → (List ℕ × Json) → Visits
  properties_asks texts j m = member_asks texts (key_part m.0) (each m.1) (find_answer m.0 j)

  -- `additionalProperties`: each member that `properties` does not describe
  abbrev pub other_asks : Option Json → Json → (List ℕ × Json) → Visits
  other_asks described v m = when (not (is_described described m.0)) (under (key_part m.0) (each v m.1))

  -- `items`: each item behind those that `prefixItems` describes
  abbrev pub item_asks : Json → ℕ → ℕ → Json → Visits
  item_asks v first n j = when (nat_le first n) (under (index_part n) (each v j))

  -- what a keyword of the schema `s` asks whose value is `v`
  abbrev pub asks : FormTexts → Json → Json → Keyword → Json → Json → Visits
  asks texts root s k.OfType v j = type_asks texts (as_str v) (listed v) j
  asks texts root s k.Enum v j = of (λ vs. among_asks texts vs j) (listed v)
  asks texts root s k.Const v j = const_asks texts v j
  asks texts root s k.MinLength v j = chars_asks (at_least v) j
  asks texts root s k.MaxLength v j = chars_asks (at_most v) j
  asks texts root s k.Minimum v j = bound_asks least_found v j
  asks texts root s k.Maximum v j = bound_asks most_found v j
  asks texts root s k.ExclusiveMinimum v j = bound_asks above_found v j
  asks texts root s k.ExclusiveMaximum v j = bound_asks below_found v j
  asks texts root s k.MinItems v j = counted (listed j) (at_least v)
  asks texts root s k.MaxItems v j = counted (listed j) (at_most v)
  asks texts root s k.Items v j = of (λ js. numbered (item_asks v (described_items s)) 0 js) (listed j)
  asks texts root s k.PrefixItems v j = of (λ ss. of (λ js. by_place each 0 ss js) (listed j)) (listed v)
  asks texts root s k.Properties v j = of (λ ms. in_turn (properties_asks texts j) ms) (membered v)
  asks texts root s k.Required v j = of (λ names. of (λ _. in_turn (required_asks texts j) names) (membered j)) (listed v)
  asks texts root s k.AdditionalProperties v j = of (λ ms. in_turn (other_asks (member_of (codes "properties") s) v) ms) (membered j)
  asks texts root s k.MinProperties v j = counted (membered j) (at_least v)
  asks texts root s k.MaxProperties v j = counted (membered j) (at_most v)
  asks texts root s k.AllOf v j = of (λ ss. in_turn (λ x. each x j) ss) (listed v)
  asks texts root s k.Ref v j = of (λ text. of (λ x. each x j) (target_of root text)) (as_str v)
  asks texts root s k.Definitions v j = none
  asks texts root s k.Id v j = none
  asks texts root s k.Annotation v j = none

  -- what a schema asks: each of its keywords in the order of the text; `false` asks what nothing meets, and `true` nothing
  abbrev pub schema_asks : FormTexts → Json → Json → Option (List (List ℕ × Json)) → Json → Visits
  schema_asks texts root s (Some ms) j = in_turn (λ m. asks texts root s (keyword_of m.0) m.1 j) ms
  schema_asks texts root s None j = when (not (unwrap_or (as_bool s) true)) (refused (texts form.Unknown))

-- the fault where too many schemas are asked, one in the other
abbrev pub too_deep : Visits
too_deep = is (asks_as "schema_too_deep" "more schemas in each other than are followed" false)

-- What a schema asks of a value, where at most so many schemas are asked, one in the other: its faults, each at its path, in order.
unfoldable pub faults : FormTexts → Json → ℕ → Json → Json → Visits
faults texts root zero s j = too_deep
faults texts root (suc n) s j = schema_asks (faults texts root n) texts root s (membered s) j
