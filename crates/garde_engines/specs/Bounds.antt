-- When a number is out of its bounds, and which fault of a length that is.
use Rattle.std.specs.Prelude.{ℕ, nat_lt, Result, Ok, Err, Option, Some, None, if◌then◌else◌}
use Rattle.garde_i18n.specs.Datum.{length_lower, length_greater}
use Rattle.garde_engines.specs.Applies.{Fault, rule}
use Rattle.garde_engines.specs.declared.bounds.OutOfBounds.{OutOfBounds}
use Rattle.garde_engines.specs.declared.bounds.OutOfBounds.TheVariants.{Lower, Upper}

-- what holding a number against its bounds gives: the lower bound is asked first
abbrev pub bounds_answer : ℕ → ℕ → ℕ → Result (Unit {0}) OutOfBounds
bounds_answer min max n = if nat_lt n min then Err Lower else (if nat_lt max n then Err Upper else Ok tt)

-- the fault of a length, where holding it against these bounds gave this
abbrev pub length_fault : ℕ → ℕ → Result (Unit {0}) OutOfBounds → Option Fault
length_fault min max (Ok _) = None
length_fault min max (Err Lower) = Some (rule (length_lower min))
length_fault min max (Err Upper) = Some (rule (length_greater max))

-- what holding an option against bounds gives: an option without a value is within them
abbrev pub option_answer :
    {T : Type 0} → (T → Result (Unit {0}) OutOfBounds) → Option T → Result (Unit {0}) OutOfBounds
option_answer answer None = Ok tt
option_answer answer (Some value) = answer value
