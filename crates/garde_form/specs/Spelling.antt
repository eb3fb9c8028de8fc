-- What a field of a web form or a cell of a table spells of a type, in the words of `garde_schema`. Each word is that of a form.
use Prim.Native.String.{String as Literal}
use Rattle.std.specs.Prelude.{◌≡◌, ℕ, ℤ, pos, negsuc, ◌-◌, ◌^◌, List, Bool, Option, None, codes, map, option_and_then, bytes_eq}
use Rattle.std.specs.Borrow.{Bor}
use Rattle.json.specs.Json.{Json}
use Rattle.json.specs.Find.{as_str}
use Rattle.garde.specs.Fields.{Fault, key_part}
use Rattle.garde.specs.Visits.{none}
use Rattle.garde_tape.specs.Look.{find_answer, kind_of}
use Rattle.garde_tape.specs.declared.kind.Kind.TheVariants as kinds
use Rattle.garde_schema.specs.declared.fault.FormFault.TheVariants.{Wrong}
use Rattle.garde_schema.specs.declared.fault.Integer.{Integer}
use Rattle.garde_schema.specs.declared.fault.Integer.TheVariants as integers
use Rattle.garde_schema.specs.declared.fault.Wanted.TheVariants as wanted
use Rattle.garde_schema.specs.Forms.{formed}
use Rattle.garde_schema.specs.Members.{optional_value, optional_visits}
use Rattle.garde_schema.specs.Nulls.{nullable_value, nullable_visits}
use Rattle.garde_schema.specs.Whole.{between, number_visits, up_to}
use Rattle.garde_schema.specs.Spelling.{Members, Spelling, all_found, first_beyond}
use Rattle.garde_form.specs.Texts.{flag_text, is_empty, nearest_text, signed_text, text_fault, unread, unsigned_text}
use Rattle.garde_form.specs.WebForm.{form_json}

-- a type of whole numbers as texts write them: which it is, its least and its greatest number, and its number that a text writes
pub record TextNumbers (A : Type 0) : Type 0 where
  pub integer : Integer
  pub least : A
  pub most : A
  pub number : List ℕ → Option A

abbrev pub unsigned : Integer → ℕ → (List ℕ → Option ℕ) → TextNumbers ℕ
unsigned integer bits number = record { integer = integer; least = 0; most = 2 ^ bits - 1; number = number }

abbrev pub signed : Integer → ℕ → (List ℕ → Option ℤ) → TextNumbers ℤ
signed integer bits number = record {
  integer = integer;
  least = negsuc (2 ^ bits - 1);
  most = pos (2 ^ bits - 1);
  number = number;
}

abbrev pub unsigned_in : ℕ → List ℕ → Option ℕ
unsigned_in bits text = up_to (2 ^ bits - 1) (unsigned_text text)

abbrev pub signed_in : ℕ → List ℕ → Option ℤ
signed_in bits text = between (negsuc (2 ^ bits - 1)) (pos (2 ^ bits - 1)) (signed_text text)

-- the types of whole numbers; a text writes a `usize` as a `u64`
abbrev pub u8_texts : TextNumbers ℕ
u8_texts = unsigned integers.U8 8 (unsigned_in 8)

abbrev pub u16_texts : TextNumbers ℕ
u16_texts = unsigned integers.U16 16 (unsigned_in 16)

abbrev pub u32_texts : TextNumbers ℕ
u32_texts = unsigned integers.U32 32 (unsigned_in 32)

abbrev pub u64_texts : TextNumbers ℕ
u64_texts = unsigned integers.U64 64 (λ text. unsigned_text text)

abbrev pub usize_texts : TextNumbers ℕ
usize_texts = u64_texts

abbrev pub i8_texts : TextNumbers ℤ
i8_texts = signed integers.I8 7 (signed_in 7)

abbrev pub i16_texts : TextNumbers ℤ
i16_texts = signed integers.I16 15 (signed_in 15)

abbrev pub i32_texts : TextNumbers ℤ
i32_texts = signed integers.I32 31 (signed_in 31)

abbrev pub i64_texts : TextNumbers ℤ
i64_texts = signed integers.I64 63 (λ text. signed_text text)

abbrev pub isize_texts : TextNumbers ℤ
isize_texts = i64_texts

-- a text that writes a whole number of a type, under rules. One that the type does not hold is beyond the bound that the nearest one is
-- beyond.
abbrev pub a_written : {A : Type 0} → TextNumbers A → List (A → Option Fault) → Spelling A
a_written numbers rules = record {
  value = λ j. option_and_then (λ text. numbers.number text) (as_str j);
  visits = λ texts j. formed (texts (Wrong wanted.Text (kind_of j)))
      (λ text. number_visits
      (unread (option_and_then (λ n. first_beyond rules n) (nearest_text numbers.least numbers.most text)) (texts (text_fault numbers.integer text)))
      (λ n. all_found rules n) (numbers.number text)) (as_str j);
}

-- a text that writes `true` or `false`
abbrev pub a_written_flag : Spelling Bool
a_written_flag = record {
  value = λ j. option_and_then (λ text. flag_text text) (as_str j);
  visits = λ texts j. formed (texts (Wrong wanted.Text (kind_of j)))
      (λ text. number_visits (unread None (texts (Wrong wanted.Boolean kinds.Text))) (λ _. none) (flag_text text)) (as_str j);
}

-- a value, or the empty text
abbrev pub or_empty : {A : Type 0} → Spelling A → Spelling (Option A)
or_empty one = record {
  value = λ j. nullable_value (one.value j) (is_empty (as_str j));
  visits = λ texts j. nullable_visits (one.visits texts j) (is_empty (as_str j));
}

-- a field that may be missing
abbrev pub optional : {A : Type 0} → Literal → Spelling A → Members (Option A)
optional name one = record {
  value = λ j. optional_value (λ v. one.value v) (find_answer (codes name) j);
  visits = λ texts j. optional_visits (key_part (codes name)) texts (λ v. one.visits texts v) (find_answer (codes name) j);
  names = λ found. bytes_eq found (codes name);
}

-- this holds of the object of these fields, in which those of each of these names are one list
pub record OfForm (names : List (List ℕ)) (fields : List (List ℕ × List ℕ)) (holds : Json → Type 0) : Type 0 where
  pub lists : List (Bor (List ℕ))
  pub named : map (λ (name : Bor (List ℕ)). name.now) lists ≡ names
  pub is : holds (form_json lists fields)
