-- The faults of bounds: a number that its type does not hold has such a fault where the number nearest to it has it.
use Rattle.std.specs.Prelude.{◌≡◌, ⊤, ℕ, List, [], Bool, true, false, Option, Some, None, IsSomeAnd, Result, Ok, Err, codes, if◌then◌else◌}
use Rattle.garde_i18n.specs.Datum.{Datum, length_lower, length_greater, range_lower, range_greater, card, pattern, contains, url, prefix, suffix, phone, ip, matches, not_ascii, not_alphanumeric, not_set, named}
use Rattle.garde_report.specs.declared.error.rule_error.RuleError.{RuleError}
use Rattle.garde_report.specs.declared.error.rule_error.RuleError.TheVariants as errors
use Rattle.garde.specs.Fields.{Fault, rule, own}
use Rattle.garde_rules.specs.{fault_text}

-- whether a datum is that of a bound
abbrev pub is_bound_datum : Datum → Bool
is_bound_datum (length_lower n) = false
is_bound_datum (length_greater n) = false
is_bound_datum (range_lower s) = true
is_bound_datum (range_greater s) = true
is_bound_datum (card r) = false
is_bound_datum (pattern s) = false
is_bound_datum (contains s) = false
is_bound_datum (url r) = false
is_bound_datum (prefix s) = false
is_bound_datum (suffix s) = false
is_bound_datum (phone r) = false
is_bound_datum (ip k) = false
is_bound_datum (matches s) = false
is_bound_datum not_ascii = false
is_bound_datum not_alphanumeric = false
is_bound_datum not_set = false
is_bound_datum (named code english) = false

-- whether a fault is that of a bound: a message of its own is not
abbrev pub is_bound : Fault → Bool
is_bound (rule datum) = is_bound_datum datum
is_bound (own message) = false

-- the fault that was found, where it is that of a bound
abbrev pub bound_in : Option Fault → Option Fault
bound_in None = None
bound_in (Some fault) = if is_bound fault then Some fault else None

-- the first of two, where it is there, and else the second
abbrev pub first_bound : Option Fault → Option Fault → Option Fault
first_bound (Some fault) other = Some fault
first_bound None other = other

-- the result of asking for the fault of a bound. No reason is promised for `Memory`.
abbrev pub TellsBound : Option Fault → (Datum → List ℕ) → Result (Unit {0}) RuleError → Type 0
TellsBound bound text (Ok _) = bound ≡ None
TellsBound bound text (Err (errors.Fault message)) = IsSomeAnd bound (λ fault. message ≡ fault_text text fault)
TellsBound bound text (Err errors.Memory) = ⊤

-- the texts of the handlers that tell a bound: empty ones, but that of a bound where they mark it
abbrev pub mark_text : Bool → Datum → List ℕ
mark_text marked datum = if is_bound_datum datum then (if marked then codes "." else []) else []
