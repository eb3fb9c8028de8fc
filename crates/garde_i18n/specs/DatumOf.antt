-- What the types of a datum and its code are, in contracts.
use Rattle.std.specs.Prelude.{ℕ, List, [], ◌∷◌, Option, None, Some}
use Rattle.std.specs.Borrow.{Bor}
use Rattle.std.specs.Fmt.{decimal}
use Rattle.garde_i18n.specs.Datum.{Code, Datum, length_lower, length_greater, range_lower, range_greater, card, pattern, contains, url, prefix, suffix, phone, ip, matches, not_ascii, not_alphanumeric, not_set, named}
use Rattle.garde_i18n.specs.declared.datum.Code as coded
use Rattle.garde_i18n.specs.declared.datum.Datum as found
use Rattle.garde_i18n.specs.declared.datum.Datum.TheVariants as kind
use Rattle.garde_i18n.specs.declared.datum.Named as brought
use Rattle.garde_i18n.specs.declared.datum.Value as printed
use Rattle.garde_i18n.specs.declared.datum.Value.TheVariants as value

-- a value as it is printed: a number in decimal, a text as it is
abbrev pub value_text : printed.Value → List ℕ
value_text (value.Number n) = decimal n
value_text (value.Text s) = s.now

-- a parameter, if there is one: its name and its value
abbrev pub params_of : Option (Bor (List ℕ) × printed.Value) → List (List ℕ × List ℕ)
params_of None = []
params_of (Some p) = (p.0.now, value_text p.1) ∷ []

-- a code and its parameter
abbrev pub code_of : coded.Code → Code
code_of c = (c.name.now, params_of c.param)

-- what a rule found that has no method of its own
abbrev pub named_of : brought.Named → Datum
named_of fault = named (code_of fault.code) fault.english.now

-- a text is the list of its bytes
abbrev pub datum_of : found.Datum → Datum
datum_of (kind.LengthLowerThan min) = length_lower min
datum_of (kind.LengthGreaterThan max) = length_greater max
datum_of (kind.RangeLowerThan min) = range_lower min.now
datum_of (kind.RangeGreaterThan max) = range_greater max.now
datum_of (kind.CreditCardInvalid reason) = card reason
datum_of (kind.PatternNoMatch source) = pattern source.now
datum_of (kind.ContainsMissing part) = contains part.now
datum_of (kind.UrlInvalid reason) = url reason
datum_of (kind.PrefixMissing start) = prefix start.now
datum_of (kind.SuffixMissing end) = suffix end.now
datum_of (kind.PhoneNumberInvalid reason) = phone reason
datum_of (kind.IpInvalid kind) = ip kind
datum_of (kind.MatchesFieldMismatch field) = matches field.now
datum_of kind.AsciiInvalid = not_ascii
datum_of kind.AlphanumericInvalid = not_alphanumeric
datum_of kind.RequiredNotSet = not_set
datum_of (kind.Named fault) = named_of fault
