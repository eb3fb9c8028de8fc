-- When a rule holds, and the fault where it does not.
use Rattle.std.specs.Prelude.{Bool, true, Option, Some, None, IsSomeAnd, if◌then◌else◌}
use Rattle.garde_i18n.specs.Datum.{Datum}
use Rattle.garde_engines.specs.Applies.{Fault, rule}

-- the fault of this datum where the rule does not hold
abbrev pub unless : Bool → Datum → Option Fault
unless holds datum = if holds then None else Some (rule datum)

-- an option passes a rule where it is none, or what it holds passes
abbrev pub passes_option : {T : Type 0} → (T → Bool) → Option T → Bool
passes_option passes None = true
passes_option passes (Some value) = passes value

-- an option passes a rule without being asked where it is none, or what it holds does
abbrev pub is_exempt_option : {T : Type 0} → (T → Bool) → Option T → Bool
is_exempt_option is_exempt None = true
is_exempt_option is_exempt (Some value) = is_exempt value

-- an option is rejected with an error where what it holds is
abbrev pub refused_option : {T E : Type 0} → (T → E → Type 0) → Option T → E → Type 0
refused_option refused v error = IsSomeAnd v (λ value. refused value error)

-- what a rule found, which is asked only where a condition holds
abbrev pub fault_when : Bool → Option Fault → Option Fault
fault_when cond found = if cond then found else None
