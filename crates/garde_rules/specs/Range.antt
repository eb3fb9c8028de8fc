-- When a whole number is out of its range, or no multiple of another one, and which fault that is.
use Rattle.std.specs.Prelude.{ℕ, ℤ, ◌%◌, List, [], ◌++◌, codes, Bool, false, nat_eq, nat_lt, unsigned_abs, int_lt, Result, Ok, Err, Option, Some, None, if◌then◌else◌}
use Rattle.std.specs.Fmt.{decimal, signed_decimal}
use Rattle.garde_i18n.specs.Datum.{Datum, range_lower, range_greater, named, with_param}
use Rattle.garde_engines.specs.Applies.{Fault, rule}
use Rattle.garde_rules.specs.Holds.{unless}
pub use Rattle.garde_engines.specs.declared.bounds.OutOfBounds.{OutOfBounds}
pub use Rattle.garde_engines.specs.declared.bounds.OutOfBounds.TheVariants.{Lower, Upper}

-- what holding a value against two bounds gives, where this says whether it is below the lower one and above the upper one: the
-- lower bound is asked first
abbrev pub beyond_answer : Bool → Bool → Result (Unit {0}) OutOfBounds
beyond_answer is_below is_above = if is_below then Err Lower else (if is_above then Err Upper else Ok tt)

-- the same of a number with a sign and its bounds
abbrev pub int_bounds_answer : ℤ → ℤ → ℤ → Result (Unit {0}) OutOfBounds
int_bounds_answer min max n = beyond_answer (int_lt n min) (int_lt max n)

-- the fault of a range whose bounds have these texts, where holding the value against them gave
-- this
abbrev pub range_fault : List ℕ → List ℕ → Result (Unit {0}) OutOfBounds → Option Fault
range_fault min max (Ok _) = None
range_fault min max (Err Lower) = Some (rule (range_lower min))
range_fault min max (Err Upper) = Some (rule (range_greater max))

-- what an option holds is beyond a bound, by what this says of a bound and a value
abbrev pub is_option_beyond : {N V : Type 0} → (N → V → Bool) → N → Option V → Bool
is_option_beyond is_beyond bound None = false
is_option_beyond is_beyond bound (Some v) = is_beyond bound v

-- a value is beyond a bound that is given: one that is missing is not compared
abbrev pub is_beyond_given : {N V : Type 0} → (N → V → Bool) → Option N → V → Bool
is_beyond_given is_beyond None v = false
is_beyond_given is_beyond (Some bound) v = is_beyond bound v

-- the text of a bound that is given
abbrev pub given_text : {N : Type 0} → (N → List ℕ) → Option N → List ℕ
given_text text None = []
given_text text (Some bound) = text bound

-- What a range finds whose bounds are given or missing, by when a value is below a lower bound, when it is above an upper one, and
-- by the text of a bound.
abbrev pub range_found : {N V : Type 0} → (N → V → Bool) → (N → V → Bool) → (N → List ℕ) → Option N → Option N → V → Option Fault
range_found below above text min max v =
    range_fault (given_text text min) (given_text text max) (beyond_answer (is_beyond_given below min v) (is_beyond_given above max v))

-- the same of a number without a sign, and of one with a sign
abbrev pub unsigned_found : Option ℕ → Option ℕ → ℕ → Option Fault
unsigned_found min max n = range_found (λ bound v. nat_lt v bound) nat_lt decimal min max n

abbrev pub signed_found : Option ℤ → Option ℤ → ℤ → Option Fault
signed_found min max n = range_found (λ bound v. int_lt v bound) int_lt signed_decimal min max n

-- a number is a multiple of another: nothing is left where it is divided. `n % 0` is n, so only 0 is a multiple of 0.
abbrev pub is_multiple : ℕ → ℕ → Bool
is_multiple divisor n = nat_eq (n % divisor) 0

-- of numbers with a sign, whatever their signs are
abbrev pub int_is_multiple : ℤ → ℤ → Bool
int_is_multiple divisor n = is_multiple (unsigned_abs divisor) (unsigned_abs n)

-- what is said of a number that is no multiple of the one of this text
unfoldable pub no_multiple : List ℕ → Datum
no_multiple divisor = named (with_param (codes "multiple_of_mismatch") (codes "divisor") divisor) (codes "not a multiple of " ++ divisor)

-- the fault where a number is no multiple of the one of this text
abbrev pub multiple_fault : List ℕ → Bool → Option Fault
multiple_fault divisor holds = unless holds (no_multiple divisor)
