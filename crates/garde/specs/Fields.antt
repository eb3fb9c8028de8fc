-- The words by which the author of a type states its visits, in the shape of the code beside them: the code
--     Field("code", code, (Is(Prefix("P")), Is(length!(chars, min = 3, max = 25))))
-- is stated by
--     field "code" (is (prefix "P" v.code) and is (chars (between 3 25) v.code))
-- A name, a pattern or a message is written as "text". A text that borrows is given to a rule as it is, an owned `String` as
-- `str v.name`. A list that borrows, and a `LinkedList`, is given as it is, a `Vec` as `slice v.tags`, a `VecDeque` as `v.queue.items`, a
-- set as `v.tags.keys`, and a map as `v.scores.entries`.
use Prim.Native.String.{String as Literal}
pub use Rattle.std.specs.Prelude.{codes, length, ◌≡◌, ◌==◌, Result, Ok, Err, nat_eq, nat_lt, nat_le, int_lt, ◌||◌, ◌&&◌, not, true, false, Bool, Some, None, Option, is_some, if◌then◌else◌}
pub use Rattle.std.specs.Option.{option_eq}
pub use Rattle.std.specs.Ordering.{int_eq}
pub use Rattle.garde.specs.Operators.{both, either, choose, product, quotient, remainder, Equals, IsAtMost}
unfoldable pub use Rattle.garde.specs.Visits.{Known}
pub use Rattle.garde.specs.Visits.{Visits, Visited, none, ◌and◌, under, item, when, each_of_option}
pub use Rattle.garde.specs.Nest.{recursive_visits, child_visits, in_map, in_vec, nest_visits}
pub use Rattle.garde.specs.Firsts.{AreApart, includes}
pub use Rattle.garde.specs.OverLists.{all_of, any_of, distinct}
pub use Rattle.garde_report.specs.Part.{key_part, index_part, signed_index_part, part_of}
pub use Rattle.garde_rules.specs.Inner.{component_items}
pub use Rattle.garde_rules.specs.{Fault, rule, own, byte_count, char_count, unit_count, grapheme_count}
pub use Rattle.garde_i18n.specs.declared.reasons.IpKind.TheVariants.{Any, V4, V6}
use Rattle.std.specs.Prelude.{ℕ, ℤ, ◌-◌, ◌^◌, pos, neg_ℤ, List, [], String, Vec, string_bytes, bytes_eq, option_map, unwrap_or}
use Rattle.std.specs.Borrow.{Bor}
use Rattle.std.specs.Fmt.{decimal, signed_decimal}
use Rattle.std.specs.declared.alloc.Global.{Global}
use Rattle.garde_i18n.specs.Datum as datum
use Rattle.garde_i18n.specs.declared.reasons.IpKind.{IpKind}
use Rattle.garde_i18n.specs.declared.reasons.InvalidCreditCard.{InvalidCreditCard}
use Rattle.garde_i18n.specs.declared.reasons.InvalidPhoneNumber.{InvalidPhoneNumber}
use Rattle.garde_report.specs.Part.{Part}
use Rattle.garde_report.specs.declared.error.component.Kind.TheVariants as kinds
use Rattle.garde_rules.specs.{bounds_answer, length_fault, is_ip_text, is_ipv4_text, is_ipv6_text, matches_source, url_answer}
use Rattle.garde_rules.specs.Holds.{unless}
use Rattle.garde_rules.specs.Inner as inner
use Rattle.garde_rules.specs.Range.{unsigned_found, signed_found, multiple_fault, is_multiple, int_is_multiple}
use Rattle.garde_rules.specs.Reasons.{card_fault, phone_fault, url_fault, read_answer}
use Rattle.garde_rules.specs.Text.{is_ascii_text, is_alphanumeric_text, has_part, has_prefix, has_suffix}
use Rattle.garde_rules.specs.declared.range.Range.{Range}
use Rattle.garde.specs.Firsts.{firsts}
use Rattle.garde.specs.Visits as visits

-- What is checked of a value.

-- a field, by its name
abbrev pub field : Literal → Visits → Visits
field name checked = under (key_part (codes name)) checked

-- a rule, by what it finds; and one that may allocate for its answer: `pattern` and `url`
abbrev pub is : Option Fault → Visits
is fault = visits.found fault

abbrev pub is_in_memory : Option Fault → Visits
is_in_memory fault = visits.may_allocate (visits.found fault)

-- what an option holds
abbrev pub if_some : {A : Type 0} → (A → Visits) → Option A → Visits
if_some check v = visits.optional check v

-- each item of a list, under its index; of a hashed set, whose order is not known
abbrev pub each : {A : Type 0} → (A → Visits) → List A → Visits
each check xs = visits.items check xs

abbrev pub each_in_any_order : {A : Type 0} → (A → Visits) → List A → Visits
each_in_any_order check xs = visits.items_in_any_order check xs

-- Each value of a map, under its key; of a hashed map, whose order is not known. What makes a component of a key comes first:
-- `text_key` of a `String`, `key_part` of a text that borrows, `index_part` and `signed_index_part` of a number.
abbrev pub each_value : {K A : Type 0} → (K → Part) → (A → Visits) → List (K × A) → Visits
each_value part check es = visits.entries part check es

abbrev pub each_value_in_any_order : {K A : Type 0} → (K → Part) → (A → Visits) → List (K × A) → Visits
each_value_in_any_order part check es = visits.entries_in_any_order part check es

abbrev pub text_key : {Z : Type 0} → String Z → Part
text_key key = key_part (string_bytes key)

-- What a rule is asked of.

-- the text of a `String`, and the items of a `Vec`
abbrev pub str : {Z : Type 0} → String Z → List ℕ
str s = string_bytes s

abbrev pub slice : {A Z : Type 0} → Vec A Z → List A
slice v = v.items

-- numbers with a sign: above zero, and below it
abbrev pub plus : ℕ → ℤ
plus n = pos n

abbrev pub minus : ℕ → ℤ
minus n = neg_ℤ (pos n)

-- The bounds of a length or a number: it is no less, no more, just that, or neither less than the one nor more than the other. A
-- constant `range!(..)` stands for them under its own name.
abbrev pub at_least : {N : Type 0} → N → Range N
at_least least = record { min = Some least; max = None }

abbrev pub at_most : {N : Type 0} → N → Range N
at_most most = record { min = None; max = Some most }

abbrev pub exactly : {N : Type 0} → N → Range N
exactly n = record { min = Some n; max = Some n }

abbrev pub between : {N : Type 0} → N → N → Range N
between least most = record { min = Some least; max = Some most }

-- What the rules find.

-- a number without a sign is within these bounds; one with a sign is
abbrev pub range : Range ℕ → ℕ → Option Fault
range bounds n = unsigned_found bounds.min bounds.max n

abbrev pub signed_range : Range ℤ → ℤ → Option Fault
signed_range bounds n = signed_found bounds.min bounds.max n

-- a number without a sign, or with one, is a multiple of another one
abbrev pub multiple_of : ℕ → ℕ → Option Fault
multiple_of divisor n = multiple_fault (decimal divisor) (is_multiple divisor n)

abbrev pub signed_multiple_of : ℤ → ℤ → Option Fault
signed_multiple_of divisor n = multiple_fault (signed_decimal divisor) (int_is_multiple divisor n)

-- a length, of whatever is counted, is within these bounds
abbrev pub count : Range ℕ → ℕ → Option Fault
count bounds n =
    let least = unwrap_or bounds.min 0 in let most = unwrap_or bounds.max (2 ^ 64 - 1) in length_fault least most (bounds_answer least most n)

-- so many bytes has a text, so many characters, extended grapheme clusters or code units of UTF-16
abbrev pub bytes : Range ℕ → List ℕ → Option Fault
bytes bounds s = count bounds (byte_count s)

abbrev pub chars : Range ℕ → List ℕ → Option Fault
chars bounds s = count bounds (char_count s)

abbrev pub graphemes : Range ℕ → List ℕ → Option Fault
graphemes bounds s = count bounds (grapheme_count s)

abbrev pub utf16 : Range ℕ → List ℕ → Option Fault
utf16 bounds s = count bounds (unit_count s)

-- so many items has a list, or entries a map
abbrev pub items : {A : Type 0} → Range ℕ → List A → Option Fault
items bounds xs = count bounds (length xs)

-- every byte of a text is below 128; every character is a letter or a number
abbrev pub ascii : List ℕ → Option Fault
ascii s = unless (is_ascii_text s) datum.not_ascii

abbrev pub alphanumeric : List ℕ → Option Fault
alphanumeric s = unless (is_alphanumeric_text s) datum.not_alphanumeric

-- a text has a pattern as a part, begins with it, or ends with it: one that stands here as "text", or one that is a value
abbrev pub contains_text : List ℕ → List ℕ → Option Fault
contains_text part s = unless (has_part part s) (datum.contains part)

abbrev pub prefix_text : List ℕ → List ℕ → Option Fault
prefix_text part s = unless (has_prefix part s) (datum.prefix part)

abbrev pub suffix_text : List ℕ → List ℕ → Option Fault
suffix_text part s = unless (has_suffix part s) (datum.suffix part)

abbrev pub contains : Literal → List ℕ → Option Fault
contains part s = contains_text (codes part) s

abbrev pub prefix : Literal → List ℕ → Option Fault
prefix part s = prefix_text (codes part) s

abbrev pub suffix : Literal → List ℕ → Option Fault
suffix part s = suffix_text (codes part) s

-- a compiled pattern, which is a value, matches anywhere in a text; a text is an absolute URL
abbrev pub pattern : List ℕ → List ℕ → Option Fault
pattern source s = unless (matches_source source s) (datum.pattern source)

abbrev pub url : List ℕ → Option Fault
url s = url_fault (read_answer (url_answer s))

-- a text is an address of this kind
abbrev pub ip : IpKind → List ℕ → Option Fault
ip kind s = unless (is_ip_text kind s) (datum.ip kind)

-- a card number, and a phone number, of whose type this is the answer
abbrev pub credit_card : Result (Unit {0}) InvalidCreditCard → Option Fault
credit_card answer = card_fault answer

abbrev pub phone_number : Result (Unit {0}) InvalidPhoneNumber → Option Fault
phone_number answer = phone_fault answer

-- an option has a value, always or where this condition holds
abbrev pub required : {A : Type 0} → Option A → Option Fault
required v = unless (is_some v) datum.not_set

abbrev pub required_if : {A : Type 0} → Bool → Option A → Option Fault
required_if condition v = unless (not condition || is_some v) datum.not_set

-- a value matches that of the field of this name, where this says whether it does: `text_eq` of two texts, `nat_eq` of two numbers,
-- `option_eq text_eq` of two options of texts
abbrev pub matches : Literal → Bool → Option Fault
matches name equal = unless equal (datum.matches (codes name))

-- a condition holds, and where it fails a user-defined rule says a message: one that stands here as "text", or one that is a value
abbrev pub asks_text : List ℕ → Bool → Option Fault
asks_text message holds = if holds then None else Some (own message)

abbrev pub asks : Literal → Bool → Option Fault
asks message holds = asks_text (codes message) holds

-- a rule, with this message in place of the handler's
abbrev pub with_message : Literal → Option Fault → Option Fault
with_message message fault = option_map (λ _. own (codes message)) fault

-- the condition holds; else the fault of this code, whose text in English is this one
abbrev pub asks_named : List ℕ → List ℕ → Bool → Option Fault
asks_named code english holds = unless holds (datum.named (code, []) english)

abbrev pub asks_as : Literal → Literal → Bool → Option Fault
asks_as code english holds = asks_named (codes code) (codes english) holds

-- a rule that is asked of an option as a whole: an option without a value passes. `if_some` asks the rule of what the option holds;
-- both have the same trees.
abbrev pub of_option : {A : Type 0} → (A → Option Fault) → Option A → Option Fault
of_option asked None = None
of_option asked (Some v) = asked v

-- No two items of a list are the same by this comparison; each that is the same as one before it is a fault, under its index, with a
-- message: one that stands here as "text", or one that is a value.
abbrev pub unique_text : {A : Type 0} → List ℕ → (A → A → Bool) → List A → Visits
unique_text message same xs = each_value index_part (λ first. is (asks_text message first)) (firsts same xs)

abbrev pub unique : {A : Type 0} → Literal → (A → A → Bool) → List A → Visits
unique message same xs = unique_text (codes message) same xs

-- Conditions.

-- two texts are the same; a text is just this one; a text is an address of version 4, and of version 6
abbrev pub text_eq : List ℕ → List ℕ → Bool
text_eq s other = bytes_eq s other

abbrev pub text_is : Literal → List ℕ → Bool
text_is wanted s = bytes_eq s (codes wanted)

abbrev pub is_ipv4 : List ℕ → Bool
is_ipv4 s = is_ipv4_text s

abbrev pub is_ipv6 : List ℕ → Bool
is_ipv6 s = is_ipv6_text s

-- What else is cited.

-- a reference to a value, as a user-defined rule holds its context: where it points does not matter
abbrev pub reference_to : {A : Type 0} → A → Bor A
reference_to v = record { ref_ptr = (0, 0); now = v }

-- the component of the key of the entry with this number, in a user-defined collection that is walked by `inner`
abbrev pub key_place : {A : Type 0} → List (String Global × A) → ℕ → Part
key_place es index = inner.key_place kinds.Key string_bytes es index
