-- The keywords of JSON Schema that are known (draft 2020-12), and what each asks of a value by itself.
use Rattle.std.specs.Prelude.{ℕ, zero, suc, ◌-◌, ◌^◌, List, [], ◌∷◌, ◌++◌, length, nat_eq, nat_lt, ◌==◌, drop, Bool, true, false, not, ◌&&◌, ◌||◌, codes, bytes_eq, Option, Some, None, option_map, option_and_then, is_some, unwrap_or, if◌then◌else◌}
use Rattle.std.specs.List.{list_all, list_any}
use Rattle.std.specs.Ordering.{is_eq, is_gt, is_lt}
use Rattle.std.specs.Str.Parse.{digits_value}
use Rattle.json.specs.Json.{Json}
use Rattle.fast_float.specs.Text.{Parts, has_digits, point_at, scan, whole_of}
use Rattle.json.specs.Find.{as_array, as_bool, as_number, as_object, as_str, is_null}
use Rattle.garde_decimal.specs.Value.{Rational, decimal_of, order}
use Rattle.garde_i18n.specs.Datum.{Datum, named, with_param}
use Rattle.garde_tape.specs.Look.{find_answer, kind_of}
use Rattle.garde_tape.specs.declared.found.Found.{Found}
use Rattle.garde_tape.specs.declared.found.Found.TheVariants.{Missing, Once, Repeated}
use Rattle.garde_tape.specs.Reading.{item_list, member_list}
use Rattle.garde.specs.Fields.{Fault, between, chars, count, is, rule, asks_as}
use Rattle.garde.specs.Visits.{Visits, none, when}
use Rattle.garde_schema.specs.Decimals.{bounds_found, is_beyond, is_multiple_of}
use Rattle.garde_schema.specs.Forms.{FormTexts, refused}
use Rattle.garde_schema.specs.Whole.{number_visits}
use Rattle.garde_schema.specs.declared.fault.FormFault.TheVariants.{NotOneOf, Wrong}
use Rattle.garde_schema.specs.declared.fault.Wanted.TheVariants as wanted
use Rattle.garde_described.specs.declared.lengths.Bounds.{Bounds}
use Rattle.garde_described.specs.declared.keyword.Keyword.{Keyword}
use Rattle.garde_described.specs.declared.keyword.Keyword.TheVariants as k
use Rattle.garde_described.specs.declared.types.JsonType.{JsonType}
use Rattle.garde_described.specs.declared.types.JsonType.TheVariants as types

-- the keyword of a name: a name that is not known here asks nothing, as an annotation does
abbrev pub keyword_of : List ℕ → Keyword
keyword_of name =
    if bytes_eq name (codes "type") then k.OfType
    else if bytes_eq name (codes "enum") then k.Enum
    else if bytes_eq name (codes "const") then k.Const
    else if bytes_eq name (codes "minLength") then k.MinLength
    else if bytes_eq name (codes "maxLength") then k.MaxLength
    else if bytes_eq name (codes "minimum") then k.Minimum
    else if bytes_eq name (codes "maximum") then k.Maximum
    else if bytes_eq name (codes "exclusiveMinimum") then k.ExclusiveMinimum
    else if bytes_eq name (codes "exclusiveMaximum") then k.ExclusiveMaximum
    else if bytes_eq name (codes "minItems") then k.MinItems
    else if bytes_eq name (codes "maxItems") then k.MaxItems
    else if bytes_eq name (codes "items") then k.Items
    else if bytes_eq name (codes "prefixItems") then k.PrefixItems
    else if bytes_eq name (codes "properties") then k.Properties
    else if bytes_eq name (codes "required") then k.Required
    else if bytes_eq name (codes "additionalProperties") then k.AdditionalProperties
    else if bytes_eq name (codes "minProperties") then k.MinProperties
    else if bytes_eq name (codes "maxProperties") then k.MaxProperties
    else if bytes_eq name (codes "allOf") then k.AllOf
    else if bytes_eq name (codes "$ref") then k.Ref
    else if bytes_eq name (codes "$defs") then k.Definitions
    else if bytes_eq name (codes "$id") then k.Id
    else k.Annotation

-- of what is there; nothing is asked of a value of another kind
abbrev pub of : {A : Type 0} → (A → Visits) → Option A → Visits
of asks (Some x) = asks x
of asks None = none

-- the items of a list, and the members of an object
abbrev pub listed : Json → Option (List Json)
listed j = option_map item_list (as_array j)

abbrev pub membered : Json → Option (List (List ℕ × Json))
membered j = option_map member_list (as_object j)

-- ---- `type`

-- the type of a name
abbrev pub type_of : List ℕ → Option JsonType
type_of name =
    if bytes_eq name (codes "null") then Some types.Null
    else if bytes_eq name (codes "boolean") then Some types.Boolean
    else if bytes_eq name (codes "object") then Some types.Object
    else if bytes_eq name (codes "array") then Some types.Array
    else if bytes_eq name (codes "number") then Some types.Number
    else if bytes_eq name (codes "string") then Some types.String
    else if bytes_eq name (codes "integer") then Some types.Integer
    else None

-- whether the text of a number writes a whole one: `1.0` and `10e-1` do (JSON Schema Validation, 6.1.1)
abbrev pub is_integer : List ℕ → Bool
is_integer text = unwrap_or (option_map (λ v. is_multiple_of (decimal_of (codes "1")) v) (decimal_of text)) false

-- whether a value is of a type
abbrev pub has_type : JsonType → Json → Bool
has_type types.Null j = is_null j
has_type types.Boolean j = is_some (as_bool j)
has_type types.Object j = is_some (as_object j)
has_type types.Array j = is_some (as_array j)
has_type types.Number j = is_some (as_number j)
has_type types.String j = is_some (as_str j)
has_type types.Integer j = unwrap_or (option_map is_integer (as_number j)) false

-- what is asked of what is no number
abbrev pub not_a_number : Visits
not_a_number = is (asks_as "not_a_number" "not a number" false)

-- the fault of a value that is not of a type
abbrev pub no_type : FormTexts → JsonType → Json → Visits
no_type texts types.Null j = refused (texts (Wrong wanted.Null (kind_of j)))
no_type texts types.Boolean j = refused (texts (Wrong wanted.Boolean (kind_of j)))
no_type texts types.Object j = refused (texts (Wrong wanted.Object (kind_of j)))
no_type texts types.Array j = refused (texts (Wrong wanted.List (kind_of j)))
no_type texts types.Number j = not_a_number
no_type texts types.String j = refused (texts (Wrong wanted.Text (kind_of j)))
no_type texts types.Integer j = refused (texts (Wrong wanted.Whole (kind_of j)))

-- what one type asks
abbrev pub typed : FormTexts → Json → JsonType → Visits
typed texts j type = when (not (has_type type j)) (no_type texts type j)

-- the type that a text names
abbrev pub type_named : Json → Option JsonType
type_named name = option_and_then type_of (as_str name)

-- whether a value is of the type that a text names
abbrev pub has_type_named : Json → Json → Bool
has_type_named j name = unwrap_or (option_map (λ type. has_type type j) (type_named name)) false

-- the type beside `null`, of two that there are
abbrev pub is_null_type : Option JsonType → Bool
is_null_type None = false
is_null_type (Some types.Null) = true
is_null_type (Some _) = false

abbrev pub other_type : Option JsonType → Option JsonType → Option JsonType
other_type one other = if is_null_type one then other else if is_null_type other then one else None

abbrev pub beside_null : List Json → Option JsonType
beside_null (one ∷ (other ∷ [])) = other_type (type_named one) (type_named other)
beside_null _ = None

-- the fault of a value that is of none of several types: where these are one and `null`, the fault of that one
abbrev pub no_type_among : FormTexts → Option JsonType → Json → Visits
no_type_among texts (Some type) j = no_type texts type j
no_type_among texts None j = is (asks_as "type_mismatch" "not of a type that is allowed here" false)

-- what a list of types asks: that the value is of one of them
abbrev pub typed_among : FormTexts → Json → List Json → Visits
typed_among texts j names = when (not (list_any (λ name. has_type_named j name) names)) (no_type_among texts (beside_null names) j)

-- what `type` asks that is the name of a type, or a list of them
abbrev pub type_asks : FormTexts → Option (List ℕ) → Option (List Json) → Json → Visits
type_asks texts (Some name) names j = of (typed texts j) (type_of name)
type_asks texts None names j = of (typed_among texts j) names

-- ---- `minLength` and the like

-- what a text writes behind the place of its point is 0
abbrev pub whole_digits : Parts → Bool
whole_digits p = digits_value 10 (drop (point_at p) (p.whole ++ p.fraction)) == 0

-- The number of a bound: a whole one with no sign that fits 64 bits, however it is written, as `2.0` (JSON Schema Core, 4.2.3).
abbrev pub count_of : List ℕ → Option ℕ
count_of text =
    if has_digits (scan text) && (whole_digits (scan text) && nat_lt (whole_of (scan text)) (2 ^ 64)) then Some (whole_of (scan text)) else None

abbrev pub bound_of : Json → Option ℕ
bound_of v = option_and_then count_of (as_number v)

abbrev pub at_least : Json → Option Bounds
at_least v = option_map (λ n. record { min = n; max = 2 ^ 64 - 1 }) (bound_of v)

abbrev pub at_most : Json → Option Bounds
at_most v = option_map (λ n. record { min = 0; max = n }) (bound_of v)

-- so many characters has a text
abbrev pub chars_asks : Option Bounds → Json → Visits
chars_asks bounds j = of (λ s. of (λ b. is (chars (between b.min b.max) s)) bounds) (as_str j)

-- so many items has a list, or members an object
abbrev pub counted : {A : Type 0} → Option (List A) → Option Bounds → Visits
counted xs bounds = of (λ ys. of (λ b. is (count (between b.min b.max) (length ys))) bounds) xs

-- ---- `minimum` and the like

-- what is asked of a number as the exact decimal that its text writes
abbrev pub on_number : (Rational → Visits) → Json → Visits
on_number asks j = of (λ text. number_visits not_a_number asks (decimal_of text)) (as_number j)

-- a number is not below, or not above, the one that a text writes
abbrev pub least_found : List ℕ → Rational → Option Fault
least_found bound n = bounds_found (Some bound) None n

abbrev pub most_found : List ℕ → Rational → Option Fault
most_found bound n = bounds_found None (Some bound) n

-- what is said of a number that is not greater, or not less, than a bound
unfoldable pub not_greater : List ℕ → Datum
not_greater bound = named (with_param (codes "range_not_greater") (codes "bound") bound) (codes "not greater than " ++ bound)

unfoldable pub not_less : List ℕ → Datum
not_less bound = named (with_param (codes "range_not_less") (codes "bound") bound) (codes "not less than " ++ bound)

-- what is found of a number that is to be greater, or less, than the one that a text writes
abbrev pub above_found : List ℕ → Rational → Option Fault
above_found bound n = if is_beyond is_gt (decimal_of bound) n then None else Some (rule (not_greater bound))

abbrev pub below_found : List ℕ → Rational → Option Fault
below_found bound n = if is_beyond is_lt (decimal_of bound) n then None else Some (rule (not_less bound))

-- what a bound asks whose value has a text, where this is what is found of a number
abbrev pub bound_asks : (List ℕ → Rational → Option Fault) → Json → Json → Visits
bound_asks finds v j = of (λ bound. on_number (λ n. is (finds bound n)) j) (as_number v)

-- ---- `enum` and `const`

-- whether two flags, two texts, two numbers are the same
abbrev pub flags_same : Option Bool → Option Bool → Bool
flags_same (Some true) (Some b) = b
flags_same (Some false) (Some b) = not b
flags_same _ _ = false

abbrev pub texts_same : Option (List ℕ) → Option (List ℕ) → Bool
texts_same (Some s) (Some t) = bytes_eq s t
texts_same _ _ = false

-- numbers of the same value are the same, however they are written
abbrev pub values_same : List ℕ → List ℕ → Option Rational → Option Rational → Bool
values_same s t (Some a) (Some b) = is_eq (order a b)
values_same s t _ _ = bytes_eq s t

abbrev pub numbers_same : Option (List ℕ) → Option (List ℕ) → Bool
numbers_same (Some s) (Some t) = values_same s t (decimal_of s) (decimal_of t)
numbers_same _ _ = false

-- whether two values with no look inside are the same
abbrev pub scalars_same : Json → Json → Bool
scalars_same a b = (is_null a && is_null b) || (flags_same (as_bool a) (as_bool b) || (texts_same (as_str a) (as_str b) || numbers_same (as_number a) (as_number b)))

-- The items of two lists are the same at each place, where this says it of two of them; and each member of one object is in the other.
unfoldable pub items_same : (Json → Json → Bool) → List Json → List Json → Bool
items_same each [] [] = true
items_same each [] (k ∷ ks) = false
items_same each (j ∷ js) [] = false
items_same each (j ∷ js) (k ∷ ks) = each j k && items_same each js ks

abbrev pub lists_same : (Json → Json → Bool) → Option (List Json) → Option (List Json) → Bool
lists_same each (Some js) (Some ks) = items_same each js ks
lists_same each _ _ = false

abbrev pub found_same : (Json → Json → Bool) → Json → Found → Bool
found_same each j Missing = false
found_same each j (Once k) = each j k
found_same each j Repeated = false

abbrev pub member_same : (Json → Json → Bool) → Json → (List ℕ × Json) → Bool
member_same each b m = found_same each m.1 (find_answer m.0 b)

abbrev pub objects_same : (Json → Json → Bool) → Json → Option (List (List ℕ × Json)) → Option (List (List ℕ × Json)) → Bool
objects_same each b (Some ms) (Some ns) = nat_eq (length ms) (length ns) && list_all (member_same each b) ms
objects_same each b _ _ = false

-- Whether two values are the same, nested no deeper than this: the order of the members of an object does not matter, and of a number its
-- value matters (JSON Schema Core, 4.2.2). An object with a repeated member is the same as none.
unfoldable pub same : ℕ → Json → Json → Bool
same zero a b = false
same (suc n) a b = scalars_same a b || (lists_same (same n) (listed a) (listed b) || objects_same (same n) b (membered a) (membered b))

-- a JSON text nests no deeper than 128
abbrev pub is_same : Json → Json → Bool
is_same a b = same 129 a b

-- a value is one of these
abbrev pub among_asks : FormTexts → List Json → Json → Visits
among_asks texts vs j = when (not (list_any (λ v. is_same v j) vs)) (refused (texts NotOneOf))

abbrev pub const_asks : FormTexts → Json → Json → Visits
const_asks texts v j = when (not (is_same v j)) (refused (texts NotOneOf))
