-- Numbers with a fraction: the exact decimals that their texts write, and the rules on them.
use Prim.Native.String.{String as Literal}
use Rattle.std.specs.Prelude.{ℕ, List, [], Bool, true, false, ◌&&◌, ◌^◌, nat_lt, codes, Option, Some, None, option_map, option_and_then}
use Rattle.std.specs.Ordering.{is_lt, is_gt}
use Rattle.std.specs.declared.cmp.Ordering.{Ordering}
use Rattle.json.specs.Json.{Json}
use Rattle.json.specs.Find.{as_number}
use Rattle.garde_decimal.specs.Value.{Rational, decimal_of, is_multiple, order}
use Rattle.garde_i18n.specs.Datum.{Datum, named}
use Rattle.garde_rules.specs.Range.{range_found, multiple_fault}
use Rattle.garde_rules.specs.declared.range.Range.{Range}
use Rattle.garde.specs.Fields.{Fault, rule}
use Rattle.garde.specs.Visits.{Visits, found}
use Rattle.garde_schema.specs.Whole.{number_visits}
use Rattle.garde_schema.specs.Spelling.{Spelling}

-- what is said of a value that is no number, and the fault
unfoldable pub is_no_number : Datum
is_no_number = named (codes "not_a_number", []) (codes "not a number")

abbrev pub no_number : Fault
no_number = rule is_no_number

-- the decimal that a value spells; what is asked of it, or that it spells none
abbrev pub decimal_value : Json → Option Rational
decimal_value j = option_and_then decimal_of (as_number j)

abbrev pub decimal_visits : (Rational → Visits) → Json → Visits
decimal_visits asks j = number_visits (found (Some no_number)) asks (decimal_value j)

-- Whether a number lies on this side of a bound. Each number is beyond a bound that is no number.
abbrev pub is_beyond : (Ordering → Bool) → Option Rational → Rational → Bool
is_beyond side None v = true
is_beyond side (Some bound) v = side (order v bound)

-- whether a number is below, or above, the one that a text writes
abbrev pub is_below : List ℕ → Rational → Bool
is_below bound v = is_beyond is_lt (decimal_of bound) v

abbrev pub is_above : List ℕ → Rational → Bool
is_above bound v = is_beyond is_gt (decimal_of bound) v

-- what a range finds whose bounds, if they are given, have these texts
abbrev pub bounds_found : Option (List ℕ) → Option (List ℕ) → Rational → Option Fault
bounds_found min max v = range_found is_below is_above (λ text. text) min max v

-- Whether a number is a multiple of another one, whose digits write 1 to 2 ^ 64 - 1. No number is one of what is no such number.
abbrev pub is_multiple_of : Option Rational → Rational → Bool
is_multiple_of None v = false
is_multiple_of (Some divisor) v = nat_lt 0 divisor.digits && (nat_lt divisor.digits (2 ^ 64) && is_multiple v divisor)

-- what is found of a number that is no multiple of the one that a text writes
abbrev pub multiple_found : List ℕ → Rational → Option Fault
multiple_found divisor v = multiple_fault divisor (is_multiple_of (decimal_of divisor) v)

-- The words of statements: a number is within these bounds, as `at_least "0.5"`; it is a multiple of this one; and what JSON spells of it.
abbrev pub decimal_range : Range Literal → Rational → Option Fault
decimal_range bounds v = bounds_found (option_map codes bounds.min) (option_map codes bounds.max) v

abbrev pub decimal_multiple_of : Literal → Rational → Option Fault
decimal_multiple_of divisor v = multiple_found (codes divisor) v

abbrev pub a_decimal : (Rational → Visits) → Spelling Rational
a_decimal asks = record {
  value = λ j. decimal_value j;
  visits = λ texts j. decimal_visits asks j;
}
