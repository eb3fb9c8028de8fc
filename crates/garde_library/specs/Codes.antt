-- The numbers that C sees.
use Rattle.std.specs.Prelude.{◌≡◌, ℕ}
use Rattle.garde_library.specs.declared.status.Status.{Status}
use Rattle.garde_library.specs.declared.status.Status.TheVariants.{Valid, Faults, NoJson, Memory, WrongArgument}

-- the number of a status
abbrev pub code_of : Status → ℕ
code_of Valid = 0
code_of Faults = 1
code_of NoJson = 2
code_of Memory = 3
code_of WrongArgument = 4

-- this is the number of a status of which that holds
abbrev pub IsCode : (Status → Type 0) → ℕ → Type 0
IsCode holds code = (status : Status) × holds status × (code ≡ code_of status)
