-- What JSON spells of a type: its values, and the faults of what spells none or breaks a rule. Each word is that of a form.
use Prim.Native.String.{String as Literal}
use Rattle.std.specs.Prelude.{◌≡◌, ℕ, ℤ, pos, negsuc, ◌-◌, ◌^◌, ◌||◌, List, [], ◌∷◌, length, codes, Bool, Option, Some, None, option_map, option_and_then, cond, if◌then◌else◌}
use Rattle.std.specs.Str.{bytes_eq}
use Rattle.json.specs.Json.{Json}
use Rattle.json.specs.Find.{as_bool, as_number, as_object, as_str, is_null}
use Rattle.garde.specs.Fields.{Fault, key_part}
use Rattle.garde.specs.Visits.{Visits, none, found, ◌and◌, under}
use Rattle.garde.specs.Validated.{IsValid}
use Rattle.garde_tape.specs.Input.{without_mark}
use Rattle.garde_tape.specs.Look.{find_answer, kind_of}
use Rattle.garde_tape.specs.Number.{unsigned_of, signed_of}
use Rattle.garde_schema.specs.declared.fault.FormFault.TheVariants.{Wrong}
use Rattle.garde_schema.specs.declared.fault.Integer.{Integer}
use Rattle.garde_schema.specs.declared.fault.Integer.TheVariants as integers
use Rattle.garde_schema.specs.declared.fault.Wanted.TheVariants as wanted
use Rattle.garde_schema.specs.Bound.{bound_in, first_bound}
use Rattle.garde_schema.specs.Bytes.{OfDocument}
use Rattle.garde_schema.specs.Flat.{all3, all4, all5, all6}
use Rattle.garde_schema.specs.Forms.{FormTexts, formed, both}
use Rattle.garde_schema.specs.Lists.{list_of, each_item, all_values}
use Rattle.garde_schema.specs.Maps.{map_of, members_first, each_entry, entry_value}
use Rattle.garde_schema.specs.Members.{once, member_visits, members_in, optional_value, optional_visits, unknown}
use Rattle.garde_schema.specs.Nulls.{default_value, nullable_value, nullable_visits, unless_null}
use Rattle.garde_schema.specs.OneOf.{one_of_fault}
use Rattle.garde_schema.specs.RulesOnValue.{rules_on_value}
use Rattle.garde_schema.specs.Whole.{between, is_negative, number_visits, other_visits, signed_value, unsigned_value, up_to}

-- the value that JSON spells; and what a visit finds, where the faults of form have these texts: those of form and of the rules, each
-- at its path
pub record Spelling (A : Type 0) : Type 1 where
  pub value : Json → Option A
  pub visits : FormTexts → Json → Visits

-- the same of the members of an object, and whether a member of this name is among them
pub record Members (A : Type 0) : Type 1 where
  pub value : Json → Option A
  pub visits : FormTexts → Json → Visits
  pub names : List ℕ → Bool

-- these bytes, behind a byte order mark or without one, are a JSON text that spells a value in which some context finds no fault
abbrev pub SpellsValid : {A C : Type 0} → Spelling A → (A → C → Visits) → List ℕ → Type 0
SpellsValid {A = A} spelling rules bytes =
    (v : A) × OfDocument (without_mark bytes) (λ j. spelling.value j ≡ Some v) × IsValid rules v

-- a text, under rules
abbrev pub a_text : (List ℕ → Visits) → Spelling (List ℕ)
a_text asks = record {
  value = λ j. as_str j;
  visits = λ texts j. formed (texts (Wrong wanted.Text (kind_of j))) asks (as_str j);
}

-- `true` or `false`
abbrev pub a_flag : Spelling Bool
a_flag = record {
  value = λ j. as_bool j;
  visits = λ texts j. formed (texts (Wrong wanted.Boolean (kind_of j))) (λ _. none) (as_bool j);
}

-- a type of whole numbers: which it is, its number that JSON spells, and of those beyond one end of it the nearest
pub record Numbers (A : Type 0) : Type 0 where
  pub integer : Integer
  pub number : Json → Option A
  pub nearest : Bool → A

abbrev pub unsigned : Integer → ℕ → (Json → Option ℕ) → Numbers ℕ
unsigned integer bits number = record { integer = integer; number = number; nearest = λ below. if below then 0 else 2 ^ bits - 1 }

abbrev pub signed : Integer → ℕ → (Json → Option ℤ) → Numbers ℤ
signed integer bits number = record {
  integer = integer;
  number = number;
  nearest = λ below. if below then negsuc (2 ^ bits - 1) else pos (2 ^ bits - 1);
}

abbrev pub unsigned_in : ℕ → Json → Option ℕ
unsigned_in bits j = up_to (2 ^ bits - 1) (unsigned_value j)

abbrev pub signed_in : ℕ → Json → Option ℤ
signed_in bits j = between (negsuc (2 ^ bits - 1)) (pos (2 ^ bits - 1)) (signed_value j)

-- what the rules find in a number, and the fault of the first bound that it is beyond
abbrev pub all_found : {A : Type 0} → List (A → Option Fault) → A → Visits
all_found [] n = none
all_found (rule ∷ []) n = found (rule n)
all_found (rule ∷ next ∷ rules) n = found (rule n) and all_found (next ∷ rules) n

abbrev pub first_beyond : {A : Type 0} → List (A → Option Fault) → A → Option Fault
first_beyond [] n = None
first_beyond (rule ∷ []) n = bound_in (rule n)
first_beyond (rule ∷ next ∷ rules) n = first_bound (bound_in (rule n)) (first_beyond (next ∷ rules) n)

-- a whole number of a type, under rules. One that the type does not hold is beyond the bound that the nearest one is beyond.
abbrev pub a_number : {A : Type 0} → Numbers A → List (A → Option Fault) → Spelling A
a_number numbers rules = record {
  value = λ j. numbers.number j;
  visits = λ texts j. number_visits (other_visits texts numbers.integer (first_beyond rules (numbers.nearest (is_negative j))) j)
      (λ n. all_found rules n) (numbers.number j);
}

-- the types of whole numbers; a `usize` is spelled as a `u64` is
abbrev pub u8_numbers : Numbers ℕ
u8_numbers = unsigned integers.U8 8 (unsigned_in 8)

abbrev pub u16_numbers : Numbers ℕ
u16_numbers = unsigned integers.U16 16 (unsigned_in 16)

abbrev pub u32_numbers : Numbers ℕ
u32_numbers = unsigned integers.U32 32 (unsigned_in 32)

abbrev pub u64_numbers : Numbers ℕ
u64_numbers = unsigned integers.U64 64 unsigned_value

abbrev pub u128_numbers : Numbers ℕ
u128_numbers = unsigned integers.U128 128 (λ j. option_and_then (unsigned_of 128) (as_number j))

abbrev pub usize_numbers : Numbers ℕ
usize_numbers = u64_numbers

abbrev pub i8_numbers : Numbers ℤ
i8_numbers = signed integers.I8 7 (signed_in 7)

abbrev pub i16_numbers : Numbers ℤ
i16_numbers = signed integers.I16 15 (signed_in 15)

abbrev pub i32_numbers : Numbers ℤ
i32_numbers = signed integers.I32 31 (signed_in 31)

abbrev pub i64_numbers : Numbers ℤ
i64_numbers = signed integers.I64 63 signed_value

abbrev pub i128_numbers : Numbers ℤ
i128_numbers = signed integers.I128 127 (λ j. option_and_then (signed_of 128) (as_number j))

abbrev pub isize_numbers : Numbers ℤ
isize_numbers = i64_numbers

-- one of some names, each with the value that it stands for
abbrev pub named : {A : Type 0} → List (Literal × A) → List ℕ → Option A
named [] text = None
named (row ∷ rows) text = cond (bytes_eq text (codes row.0)) (Some row.1) (named rows text)

abbrev pub a_name : {A : Type 0} → List (Literal × A) → Spelling A
a_name rows = record {
  value = λ j. option_and_then (λ text. named rows text) (as_str j);
  visits = λ texts j. formed (texts (one_of_fault j)) (λ _. none) (option_and_then (λ text. named rows text) (as_str j));
}

-- a value, or `null`
abbrev pub or_null : {A : Type 0} → Spelling A → Spelling (Option A)
or_null one = record {
  value = λ j. nullable_value (one.value j) (is_null j);
  visits = λ texts j. nullable_visits (one.visits texts j) (is_null j);
}

-- a list
abbrev pub a_list : {A : Type 0} → Spelling A → Spelling (List A)
a_list item = record {
  value = λ j. option_and_then (λ js. all_values (λ x. item.value x) js) (list_of j);
  visits = λ texts j. formed (texts (Wrong wanted.List (kind_of j))) (λ js. each_item (λ x. item.visits texts x) js) (list_of j);
}

-- the same under rules of how many items it has
abbrev pub a_list_of : {A : Type 0} → (ℕ → Visits) → Spelling A → Spelling (List A)
a_list_of asks item = record {
  value = λ j. (a_list item).value j;
  visits = λ texts j. formed (texts (Wrong wanted.List (kind_of j)))
      (λ js. asks (length js) and each_item (λ x. item.visits texts x) js) (list_of j);
}

-- an object of any names, in the order of the text
abbrev pub a_map : {A : Type 0} → Spelling A → Spelling (List (List ℕ × A))
a_map item = record {
  value = λ j. option_and_then (λ ms. all_values (entry_value (λ v. item.value v)) (members_first ms)) (map_of j);
  visits = λ texts j. formed (texts (Wrong wanted.Object (kind_of j)))
      (λ ms. each_entry texts (λ v. item.visits texts v) (members_first ms)) (map_of j);
}

-- the same under rules of how many members it has
abbrev pub a_map_of : {A : Type 0} → (ℕ → Visits) → Spelling A → Spelling (List (List ℕ × A))
a_map_of asks item = record {
  value = λ j. (a_map item).value j;
  visits = λ texts j. formed (texts (Wrong wanted.Object (kind_of j)))
      (λ ms. asks (length ms) and each_entry texts (λ v. item.visits texts v) (members_first ms)) (map_of j);
}

-- a value under rules, which are asked where the value is spelled
abbrev pub a_ruled : {A : Type 0} → Spelling A → (A → Visits) → Spelling A
a_ruled one asks = record {
  value = λ j. one.value j;
  visits = λ texts j. one.visits texts j and rules_on_value asks (one.value j);
}

-- a value that is made of the one that is spelled
abbrev pub made : {A B : Type 0} → (A → B) → Spelling A → Spelling B
made make one = record { value = λ j. option_map (λ parts. make parts) (one.value j); visits = λ texts j. one.visits texts j }

-- an object with these members
abbrev pub an_object : {A : Type 0} → Members A → Spelling A
an_object members = record {
  value = λ j. option_and_then (λ _. members.value j) (as_object j);
  visits = λ texts j. formed (texts (Wrong wanted.Object (kind_of j))) (λ _. members.visits texts j) (as_object j);
}

-- a member that must be there
abbrev pub member : {A : Type 0} → Literal → Spelling A → Members A
member name one = record {
  value = λ j. option_and_then (λ v. one.value v) (once (find_answer (codes name) j));
  visits = λ texts j. under (key_part (codes name)) (member_visits texts (λ v. one.visits texts v) (find_answer (codes name) j));
  names = λ found. bytes_eq found (codes name);
}

-- a member that may be null or missing
abbrev pub nullish : {A : Type 0} → Literal → Spelling A → Members (Option A)
nullish name one = record {
  value = λ j. optional_value (λ v. one.value v) (unless_null (find_answer (codes name) j));
  visits = λ texts j. optional_visits (key_part (codes name)) texts (λ v. one.visits texts v) (unless_null (find_answer (codes name) j));
  names = λ found. bytes_eq found (codes name);
}

-- a member that may be missing: then this value stands for it
abbrev pub with_default : {A : Type 0} → Literal → Spelling A → A → Members A
with_default name one default = record {
  value = λ j. default_value default (optional_value (λ v. one.value v) (find_answer (codes name) j));
  visits = λ texts j. optional_visits (key_part (codes name)) texts (λ v. one.visits texts v) (find_answer (codes name) j);
  names = λ found. bytes_eq found (codes name);
}

-- members under rules on their value, which are asked where it is spelled
abbrev pub ruled : {A : Type 0} → Members A → (A → Visits) → Members A
ruled one asks = record {
  value = λ j. one.value j;
  visits = λ texts j. one.visits texts j and rules_on_value asks (one.value j);
  names = λ found. one.names found;
}

-- these members and no other
abbrev pub closed : {A : Type 0} → Members A → Members A
closed one = record {
  value = λ j. one.value j;
  visits = λ texts j. one.visits texts j and unknown (λ found. one.names found) texts (members_in j);
  names = λ found. one.names found;
}

-- several members in turn
abbrev pub two : {A B : Type 0} → Members A → Members B → Members (A × B)
two a b = record {
  value = λ j. both (a.value j) (b.value j);
  visits = λ texts j. a.visits texts j and b.visits texts j;
  names = λ found. a.names found || b.names found;
}

abbrev pub three : {A B C : Type 0} → Members A → Members B → Members C → Members (A × B × C)
three a b c = record {
  value = λ j. all3 (a.value j) (b.value j) (c.value j);
  visits = λ texts j. a.visits texts j and (two b c).visits texts j;
  names = λ found. a.names found || (two b c).names found;
}

abbrev pub four : {A B C D : Type 0} → Members A → Members B → Members C → Members D → Members (A × B × C × D)
four a b c d = record {
  value = λ j. all4 (a.value j) (b.value j) (c.value j) (d.value j);
  visits = λ texts j. a.visits texts j and (three b c d).visits texts j;
  names = λ found. a.names found || (three b c d).names found;
}

abbrev pub five : {A B C D E : Type 0} → Members A → Members B → Members C → Members D → Members E → Members (A × B × C × D × E)
five a b c d e = record {
  value = λ j. all5 (a.value j) (b.value j) (c.value j) (d.value j) (e.value j);
  visits = λ texts j. a.visits texts j and (four b c d e).visits texts j;
  names = λ found. a.names found || (four b c d e).names found;
}

abbrev pub six : {A B C D E F : Type 0} → Members A → Members B → Members C → Members D → Members E → Members F
    → Members (A × B × C × D × E × F)
six a b c d e f = record {
  value = λ j. all6 (a.value j) (b.value j) (c.value j) (d.value j) (e.value j) (f.value j);
  visits = λ texts j. a.visits texts j and (five b c d e f).visits texts j;
  names = λ found. a.names found || (five b c d e f).names found;
}
