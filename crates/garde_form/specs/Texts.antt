-- What texts write.
use Rattle.std.specs.Prelude.{ℕ, ℤ, pos, negsuc, ◌-◌, ◌^◌, ◌==◌, ◌&&◌, Bool, true, false, List, [], ◌∷◌, length, nat_lt, Option, Some, None, if◌then◌else◌, chars, bytes_eq}
use Rattle.std.specs.Str.{trim}
use Rattle.std.specs.Char.{digit_value}
use Rattle.std.specs.Str.Parse.{true_text, false_text, digits_value, signed_digits_value, without_leading_plus, without_leading_sign}
use Rattle.json.specs.Json.{Json, string}
use Rattle.json.specs.Find.{as_str}
use Rattle.garde.specs.Fields.{Fault}
use Rattle.garde.specs.Visits.{Visits, found}
use Rattle.garde_tape.specs.Number.{has_minus}
use Rattle.garde_schema.specs.Whole.{between, up_to, beyond_fault}
use Rattle.garde_schema.specs.declared.fault.FormFault.{FormFault}
use Rattle.garde_schema.specs.declared.fault.FormFault.TheVariants.{Wrong, OutOfRange}
use Rattle.garde_schema.specs.declared.fault.Wanted.TheVariants as wanted
use Rattle.garde_schema.specs.declared.fault.Integer.{Integer}
use Rattle.garde_tape.specs.declared.kind.Kind.TheVariants as kinds
use Rattle.garde_form.specs.declared.text_type.TextKind.{TextKind}
use Rattle.garde_form.specs.declared.text_type.TextKind.TheVariants.{Quoted, Bare, Number}

-- whether there is a text, and it is empty
abbrev pub is_empty : Option (List ℕ) → Bool
is_empty (Some text) = length text == 0
is_empty None = false

-- this text without the white space at its ends, or else the value as it is
abbrev pub trimmed_text : Option (List ℕ) → Json → Json
trimmed_text (Some text) j = string (trim text)
trimmed_text None j = j

-- a text without the white space at its ends, and any other value as it is
abbrev pub trimmed : Json → Json
trimmed j = trimmed_text (as_str j) j

-- whether each byte is a decimal digit
unfoldable pub all_digits : List ℕ → Bool
all_digits [] = true
all_digits (c ∷ cs) = nat_lt (digit_value c) 10 && all_digits cs

-- whether there is one decimal digit or more, and nothing else
abbrev pub is_numeral : List ℕ → Bool
is_numeral text = nat_lt 0 (length text) && all_digits text

-- whether a text is a whole number of any size, perhaps behind a plus or a minus
abbrev pub is_whole : List ℕ → Bool
is_whole text = is_numeral (without_leading_sign text)

-- the number of at most 64 bits without a sign that a text writes, perhaps behind a plus
abbrev pub unsigned_text : List ℕ → Option ℕ
unsigned_text text = if is_numeral (without_leading_plus text) then up_to (2 ^ 64 - 1) (Some (digits_value 10 (without_leading_plus text))) else None

-- the number of at most 64 bits with its sign that a text writes, perhaps behind a plus or a minus
abbrev pub signed_text : List ℕ → Option ℤ
signed_text text = if is_whole text then between (negsuc (2 ^ 63 - 1)) (pos (2 ^ 63 - 1)) (Some (signed_digits_value 10 text)) else None

-- what is wrong with a text that is no number of this type
abbrev pub text_fault : Integer → List ℕ → FormFault
text_fault integer text = if is_whole text then OutOfRange integer else Wrong wanted.Whole kinds.Text

-- of the least and the greatest number of a type, the one that is nearest to a whole number beyond the type which a text writes
abbrev pub nearest_text : {A : Type 0} → A → A → List ℕ → Option A
nearest_text least most text = if is_whole text then Some (if has_minus text then least else most) else None

-- whether the texts of this kind are bare values too
abbrev pub is_bare : {A : Type 0} → TextKind A → Bool
is_bare (Quoted what) = false
is_bare (Bare what) = true
is_bare (Number integer least most) = false

-- what is wrong with a text of this kind that spells no value
abbrev pub fault_in : {A : Type 0} → TextKind A → List ℕ → FormFault
fault_in (Quoted what) text = Wrong what kinds.Text
fault_in (Bare what) text = Wrong what kinds.Text
fault_in (Number integer least most) text = text_fault integer text

-- the value that is nearest to a whole number which a text of this kind writes
abbrev pub nearest_in : {A : Type 0} → TextKind A → List ℕ → Option A
nearest_in (Quoted what) text = None
nearest_in (Bare what) text = None
nearest_in (Number integer least most) text = nearest_text least most text

-- what is wrong with a text that spells no value: of a number beyond a bound of the rules this bound, and else this message
abbrev pub unread : Option Fault → List ℕ → Visits
unread bound message = found (Some (beyond_fault bound message))

-- the value that a text names: `true` or `false`
abbrev pub flag_text : List ℕ → Option Bool
flag_text text = if bytes_eq text true_text then Some true else (if bytes_eq text false_text then Some false else None)

-- the item of a list that has one
abbrev pub sole : List ℕ → Option ℕ
sole [] = None
sole (c ∷ []) = Some c
sole (c ∷ d ∷ cs) = None

-- the character of a text that has one
abbrev pub character_text : List ℕ → Option ℕ
character_text text = sole (chars text)
