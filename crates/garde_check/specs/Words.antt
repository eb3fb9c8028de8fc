-- The words of a command, the status of an answer and the line of an error.
use Rattle.std.specs.Prelude.{◌≡◌, ◌≢◌, ◌<◌, ◌^◌, ℕ, List, [], ◌∷◌, ◌++◌, Option, Some, None, Result, Ok, Err, codes}
use Rattle.std.specs.Str.Parse.{IsNumeral, digits_value, without_leading_plus}
use Rattle.garde_check.specs.declared.mode.Command.{Command}
use Rattle.garde_check.specs.declared.mode.Command.TheVariants.{Text, Nodes, Json, Body}
use Rattle.garde_check.specs.declared.outcome.Outcome.{Outcome}
use Rattle.garde_check.specs.declared.outcome.Outcome.TheVariants.{Valid, Faults}
use Rattle.garde_check.specs.declared.outcome.RunError.{RunError}
use Rattle.garde_check.specs.declared.outcome.RunError.TheVariants.{NotUtf8, BadBody, Read, Write, Memory}

-- the words that ask for a command
abbrev pub words_of : Command → List (List ℕ)
words_of Text = []
words_of Nodes = codes "--nodes" ∷ []
words_of Json = codes "--json" ∷ []
words_of Body = codes "json" ∷ []

-- the text is this number, which fits a `usize`, in decimal digits; a plus may stand first
abbrev pub IsNumber : List ℕ → ℕ → Type 0
IsNumber text n =
    let digits = without_leading_plus text in
    (IsNumeral 10 digits × (digits_value 10 digits < 2 ^ 64)) × (n ≡ digits_value 10 digits)

-- the words ask for a command, of which all faults are written or at most so many; these have no number of nodes
abbrev pub AskFor : List (List ℕ) → Command → Option ℕ → Type 0
AskFor words command None = words ≡ words_of command
AskFor words command (Some most) =
    (text : List ℕ) × IsNumber text most × (words ≡ codes "--most" ∷ text ∷ words_of command) × (command ≢ Nodes)

-- 0 where no fault was found, 1 where one was, 2 for every error
abbrev pub status_of : Result Outcome RunError → ℕ
status_of (Ok Valid) = 0
status_of (Ok Faults) = 1
status_of (Err _) = 2

-- why a run failed
abbrev pub run_error_text : RunError → List ℕ
run_error_text NotUtf8 = codes "the input is not UTF-8"
run_error_text BadBody = codes "the body is not a request"
run_error_text Read = codes "the input could not be read"
run_error_text Write = codes "the output could not be written"
run_error_text Memory = codes "out of memory"

-- the line that reports each error
abbrev pub line_of : RunError → List ℕ
line_of error = codes "garde_check: " ++ run_error_text error
