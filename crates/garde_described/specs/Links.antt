-- What is asked of a schema beside its form: that its references lead somewhere and to an end, that its bounds can be met and are read.
use Rattle.std.specs.Prelude.{ℕ, zero, suc, List, Bool, true, false, not, nat_lt, codes, Option, Some, None, option_and_then, option_map, is_some, unwrap_or}
use Rattle.std.specs.List.{list_any}
use Rattle.std.specs.Ordering.{is_lt}
use Rattle.json.specs.Json.{Json}
use Rattle.json.specs.Find.{as_number, as_str}
use Rattle.garde_decimal.specs.Value.{Rational, decimal_of, order}
use Rattle.garde_report.specs.Part.{index_part, key_part}
use Rattle.garde_tape.specs.Look.{kind_of}
use Rattle.garde.specs.Fields.{asks_as, is}
use Rattle.garde.specs.Visits.{Visits, none, ◌and◌, under, when}
use Rattle.garde_schema.specs.Forms.{FormTexts, refused}
use Rattle.garde_schema.specs.declared.fault.FormFault.TheVariants as faults
use Rattle.garde_schema.specs.declared.fault.Wanted.TheVariants as wanted
use Rattle.garde_described.specs.Faults.{in_turn, member_of, numbered, target_of}
use Rattle.garde_described.specs.Keywords.{bound_of, keyword_of, listed, membered, of, type_of}
use Rattle.garde_described.specs.declared.keyword.Keyword.{Keyword}
use Rattle.garde_described.specs.declared.keyword.Keyword.TheVariants as k

-- Whether the references and the `allOf` of a schema lead through more than so many schemas that are asked of the same value.
abbrev pub step_leads : (Json → Bool) → Json → Keyword → Json → Bool
step_leads leads root k.Ref v = unwrap_or (option_map leads (option_and_then (target_of root) (as_str v))) false
step_leads leads root k.AllOf v = unwrap_or (option_map (λ ss. list_any leads ss) (listed v)) false
step_leads leads root _ v = false

unfoldable pub leads_far : Json → ℕ → Json → Bool
leads_far root zero s = true
leads_far root (suc n) s = unwrap_or (option_map (λ ms. list_any (λ m. step_leads (leads_far root n) root (keyword_of m.0) m.1) ms) (membered s)) false

-- as deep as references may lead
abbrev pub is_endless : Json → Json → Bool
is_endless root s = leads_far root 16 s

-- a bound is a whole number that is written by digits alone and fits 64 bits; a number has an exponent that is read
abbrev pub count_links : FormTexts → Json → Visits
count_links texts v = of (λ _. when (not (is_some (bound_of v))) (refused (texts (faults.Wrong wanted.Whole (kind_of v))))) (as_number v)

abbrev pub number_links : Json → Visits
number_links v = of (λ text. is (asks_as "not_a_number" "not a number" (is_some (decimal_of text)))) (as_number v)

-- whether a greatest count is below the least one, and a greatest number below the least one
abbrev pub counts_crossed : Option ℕ → Option ℕ → Bool
counts_crossed (Some least) (Some most) = nat_lt most least
counts_crossed _ _ = false

abbrev pub numbers_crossed : Option Rational → Option Rational → Bool
numbers_crossed (Some least) (Some most) = is_lt (order most least)
numbers_crossed _ _ = false

-- a greatest value that is not below the least one
abbrev pub not_crossed : Bool → Visits
not_crossed crossed = is (asks_as "bounds_crossed" "less than the least" (not crossed))

abbrev pub number_of : Json → Option Rational
number_of v = option_and_then decimal_of (as_number v)

abbrev pub most_links : FormTexts → Option Json → Json → Visits
most_links texts least v = count_links texts v and not_crossed (counts_crossed (option_and_then bound_of least) (bound_of v))

abbrev pub maximum_links : Option Json → Json → Visits
maximum_links least v = number_links v and not_crossed (numbers_crossed (option_and_then number_of least) (number_of v))

-- a reference means a schema, from which references lead to an end
abbrev pub target_links : Json → Option Json → Visits
target_links root None = is (asks_as "reference_unknown" "no schema has this name here" false)
target_links root (Some s) = is (asks_as "reference_endless" "leads back to itself, or through more than 16 schemas" (not (is_endless root s)))

abbrev pub reference_links : Json → Json → Visits
reference_links root v = of (λ text. target_links root (target_of root text)) (as_str v)

-- a text names a type
abbrev pub type_links : FormTexts → Json → Visits
type_links texts v = of (λ name. when (not (is_some (type_of name))) (refused (texts faults.NotOneOf))) (as_str v)

-- `$id` is for the whole document alone
abbrev pub id_links : FormTexts → Bool → Visits
id_links texts is_whole = when (not is_whole) (refused (texts faults.Unknown))

-- what is asked of the schemas in a schema, where this is what is asked of one
module _ (each : Json → Visits) where
  abbrev pub member_links : (List ℕ × Json) → Visits
  member_links m = under (key_part m.0) (each m.1)

  abbrev pub item_links : ℕ → Json → Visits
  item_links n s = under (index_part n) (each s)

  -- what is asked of a keyword's value; `is_whole` says whether the schema `s` is the whole document
  abbrev pub keyword_links : FormTexts → Json → Bool → Json → Keyword → Json → Visits
  keyword_links texts root is_whole s k.OfType v = type_links texts v
  keyword_links texts root is_whole s k.MinLength v = count_links texts v
  keyword_links texts root is_whole s k.MinItems v = count_links texts v
  keyword_links texts root is_whole s k.MinProperties v = count_links texts v
  keyword_links texts root is_whole s k.MaxLength v = most_links texts (member_of (codes "minLength") s) v
  keyword_links texts root is_whole s k.MaxItems v = most_links texts (member_of (codes "minItems") s) v
  keyword_links texts root is_whole s k.MaxProperties v = most_links texts (member_of (codes "minProperties") s) v
  keyword_links texts root is_whole s k.Minimum v = number_links v
  keyword_links texts root is_whole s k.ExclusiveMinimum v = number_links v
  keyword_links texts root is_whole s k.ExclusiveMaximum v = number_links v
  keyword_links texts root is_whole s k.Maximum v = maximum_links (member_of (codes "minimum") s) v
  keyword_links texts root is_whole s k.Ref v = reference_links root v
  keyword_links texts root is_whole s k.Id v = id_links texts is_whole
  keyword_links texts root is_whole s k.Items v = each v
  keyword_links texts root is_whole s k.AdditionalProperties v = each v
  keyword_links texts root is_whole s k.Properties v = of (in_turn member_links) (membered v)
  keyword_links texts root is_whole s k.Definitions v = of (in_turn member_links) (membered v)
  keyword_links texts root is_whole s k.PrefixItems v = of (numbered item_links 0) (listed v)
  keyword_links texts root is_whole s k.AllOf v = of (numbered item_links 0) (listed v)
  keyword_links texts root is_whole s _ v = none

  abbrev pub one_link : FormTexts → Json → Bool → Json → (List ℕ × Json) → Visits
  one_link texts root is_whole s m = under (key_part m.0) (keyword_links texts root is_whole s (keyword_of m.0) m.1)

-- what is asked of a schema and of those in it, nested no deeper than this
unfoldable pub links : FormTexts → Json → ℕ → Bool → Json → Visits
links texts root zero is_whole s = none
links texts root (suc n) is_whole s = of (in_turn (one_link (links texts root n false) texts root is_whole s)) (membered s)
