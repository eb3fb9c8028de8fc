-- What is answered to bytes.
use Rattle.std.specs.Prelude.{◌≡◌, ◌<◌, ◌⊎◌, ℕ, List, [], ◌++◌, length, take, drop, Option, Some, None, Result, Ok, Err, codes}
use Rattle.std.specs.Fmt.{decimal}
use Rattle.json.specs.Json.{Json, string, number, array, object, no_members, member}
use Rattle.garde.specs.Handlers.{Datum}
use Rattle.garde.specs.Visits.{Visits}
use Rattle.garde_report.specs.Report.{Entry}
use Rattle.garde_problem.specs.Problem.{faults_json, json_text}
use Rattle.garde_tape.specs.Input.{without_mark}
use Rattle.garde_schema.specs.FirstRead.{AnswersFirstBytes, first_read_error_text}
use Rattle.garde_schema.specs.declared.first_read_error.FirstReadError.{FirstReadError}
use Rattle.garde_schema.specs.declared.first_read_error.FirstReadError.TheVariants.{Parse, All, First, Memory}
use Rattle.garde_library.specs.declared.status.Status.{Status}
use Rattle.garde_library.specs.declared.status.Status.TheVariants as statuses
use Rattle.garde_library.specs.declared.telling.Telling.{Telling}
use Rattle.garde_library.specs.declared.telling.Telling.TheVariants as tellings

-- the result of reading
abbrev pub Reading : Type 0
Reading = Result (Unit {0}) FirstReadError

-- problem details with a title, a status, perhaps a sentence, and the faults
abbrev pub details : List ℕ → ℕ → Option (List ℕ) → List Entry → Json
details title status None report = object
    (member (codes "title") (string title)
    (member (codes "status") (number (decimal status))
    (member (codes "errors") (array (faults_json report)) no_members)))
details title status (Some detail) report = object
    (member (codes "title") (string title)
    (member (codes "status") (number (decimal status))
    (member (codes "detail") (string detail)
    (member (codes "errors") (array (faults_json report)) no_members))))

-- those of bytes with these faults
abbrev pub all_faults : List ℕ → List Entry → Json
all_faults title report = details title 422 None report

-- those of bytes with more faults than these
abbrev pub first_faults : List ℕ → List Entry → Json
first_faults title report = details title 422 (Some (codes "there are more")) report

-- those of bytes that are no JSON text, for this reason
abbrev pub no_json : List ℕ → Json
no_json reason = details (codes "the body is no JSON text") 400 (Some reason) []

-- the details of the result of reading: of valid bytes, and where memory ran out, there are none
abbrev pub details_json : List ℕ → Reading → Option Json
details_json title (Ok done) = None
details_json title (Err (All report)) = Some (all_faults title report)
details_json title (Err (First report)) = Some (first_faults title report)
details_json title (Err (Parse error)) = Some (no_json (first_read_error_text (Parse error)))
details_json title (Err Memory) = None

-- the status that tells the result of reading
abbrev pub status_of : Reading → Status
status_of (Ok done) = statuses.Valid
status_of (Err (All report)) = statuses.Faults
status_of (Err (First report)) = statuses.Faults
status_of (Err (Parse error)) = statuses.NoJson
status_of (Err Memory) = statuses.Memory

-- the text that tells it: of valid bytes, and where memory ran out, there is none
abbrev pub text_of : List ℕ → Reading → List ℕ
text_of title (Ok done) = []
text_of title (Err (All report)) = json_text (all_faults title report)
text_of title (Err (First report)) = json_text (first_faults title report)
text_of title (Err (Parse error)) = json_text (no_json (first_read_error_text (Parse error)))
text_of title (Err Memory) = []

-- The items are as they were, but that they begin with those that are handed over, as the bytes of a text, or with as many of them as
-- there is room for. The length is that of the whole.
abbrev pub IsHanded : {A : Type 0} → List A → List A → List A → ℕ → Type 0
IsHanded items old new len = (len ≡ length items) × (new ≡ take (length old) items ++ drop (length items) old)

-- memory ran out: the bytes are as they were
abbrev pub IsOutOfMemory : List ℕ → List ℕ → ℕ → Status → Type 0
IsOutOfMemory old new len status = (status ≡ statuses.Memory) × IsHanded [] old new len

-- the lines that tell it: each fault in one, as a report prints itself; of valid bytes, and where memory ran out, there is none
abbrev pub lines_of : Reading → List ℕ
lines_of (Ok done) = []
lines_of (Err (All report)) = first_read_error_text (All report)
lines_of (Err (First report)) = first_read_error_text (First report)
lines_of (Err (Parse error)) = first_read_error_text (Parse error)
lines_of (Err Memory) = []

-- how it is told: by problem details under a title, or by lines
abbrev pub told : Telling → Reading → List ℕ
told (tellings.Details title) = text_of title.now
told tellings.Lines = lines_of

-- these bytes were handed what tells the result of reading, as this function of the result says; or memory ran out
abbrev pub IsToldBy : (Reading → List ℕ) → Reading → List ℕ → List ℕ → ℕ → Status → Type 0
IsToldBy tells read old new len status =
    ((status ≡ status_of read) × IsHanded (tells read) old new len) ⊎ IsOutOfMemory old new len status

-- These bytes were handed the answer to bytes, where visits and messages are these, and so many faults are wanted at most: what tells
-- the result of reading, and nothing where not even one fault is wanted, or memory ran out.
abbrev pub IsCheckedBy : (Reading → List ℕ) → (Json → Visits) → (Datum → List ℕ) → ℕ → List ℕ → List ℕ → List ℕ → ℕ → Status → Type 0
IsCheckedBy tells visits text most bytes old new len status =
    ((0 < most) × ((read : Reading) × AnswersFirstBytes visits text most (without_mark bytes) read × IsToldBy tells read old new len status))
    ⊎ (((most ≡ 0) × (status ≡ statuses.WrongArgument) × IsHanded [] old new len) ⊎ IsOutOfMemory old new len status)

-- the same by problem details under this title
abbrev pub IsChecked : (Json → Visits) → (Datum → List ℕ) → ℕ → List ℕ → List ℕ → List ℕ → List ℕ → ℕ → Status → Type 0
IsChecked visits text most title bytes old new len status = IsCheckedBy (text_of title) visits text most bytes old new len status

-- the same by lines
abbrev pub IsListed : (Json → Visits) → (Datum → List ℕ) → ℕ → List ℕ → List ℕ → List ℕ → ℕ → Status → Type 0
IsListed visits text most bytes old new len status = IsCheckedBy lines_of visits text most bytes old new len status

-- The status tells whether bytes have a fault, or how they are not read
abbrev pub IsVerdict : (Json → Visits) → (Datum → List ℕ) → List ℕ → Status → Type 0
IsVerdict visits text bytes status = (read : Reading) × AnswersFirstBytes visits text 0 (without_mark bytes) read × (status ≡ status_of read)
