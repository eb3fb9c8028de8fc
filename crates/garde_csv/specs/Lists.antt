-- What is left of a list, and what reading a record does to it.
use Rattle.std.specs.Prelude.{◌≡◌, ℕ, List, [], take, drop, Bool, true, false, Option, Some, None, ⊤}
use Rattle.std.specs.Io.KnownBytes.{prepend_known}
use Rattle.csv.specs.Machine.{Read, ends_at_end, next_record}
use Rattle.csv.specs.Reading.{default_config}
use Rattle.csv.specs.declared.parser.State.{State}
use Rattle.csv.specs.Records.{AllText}
use Rattle.garde_csv.specs.Places.{state_of}
use Rattle.garde_csv.specs.Quotes.{Seen, seen_in, seen_of, unbegun}
use Rattle.garde_csv.specs.declared.bytes.Bytes.{Bytes}
use Rattle.garde_csv.specs.declared.fault.Fault.{Fault}
use Rattle.garde_csv.specs.declared.fault.Fault.TheVariants as fault
use Rattle.garde_csv.specs.declared.list_error.ListError.{ListError}
use Rattle.garde_csv.specs.declared.list_error.ListError.TheVariants as stop
use Rattle.garde_csv.specs.declared.records.Next.{Next}
use Rattle.garde_csv.specs.declared.records.Next.TheVariants as next
use Rattle.garde_csv.specs.declared.records.Records.{Records}
use Rattle.garde_csv.specs.declared.walk.Walk.{Walk}

-- the bytes that were read and are not yet given
abbrev pub buffered : {R : Type 0} → Bytes R → List ℕ
buffered b = drop b.at (take b.filled b.buffer.value)

-- the bytes that are not yet given, if those of the source are known
abbrev pub unread_of : {R : Type 0} → (R → Option (List ℕ)) → Bytes R → Option (List ℕ)
unread_of rem b = prepend_known (buffered b) (rem b.source)

-- what is known of a list: the bytes that are not yet read, the state of `csv` and the line of the next byte
abbrev pub rest_of : {R : Type 0} → (R → Option (List ℕ)) → Records R → Option (List ℕ)
rest_of rem list = unread_of rem list.bytes

abbrev pub list_state : {R : Type 0} → Records R → State
list_state list = state_of list.place

abbrev pub next_line : {R : Type 0} → Records R → ℕ
next_line list = list.line

-- the line in which the record begins that was read last
abbrev pub row_line : {R : Type 0} → Records R → ℕ
row_line list = list.start

-- whether an error says itself what went wrong: the source failed, or memory ran out
abbrev pub is_cause : ListError → Bool
is_cause (stop.Io error) = true
is_cause stop.Memory = true
is_cause stop.Stopped = false

-- an earlier call failed
abbrev pub has_stopped : {R : Type 0} → Records R → Bool
has_stopped list = list.failed

-- what the cells of the next record and what is seen of it come to, if there is one; if there is none, no byte is left
abbrev pub TakesAt : Option Read → Seen → List ℕ → List (List ℕ) → Option Walk → Type 0
TakesAt None seen rest fields walk = (walk ≡ None) × (rest ≡ [])
TakesAt (Some p) seen rest fields None = ⊥
TakesAt (Some p) seen rest fields (Some walk) = (rest ≡ p.2) × (state_of walk.place ≡ p.1) × (seen_of walk ≡ seen) × (fields ≡ p.0)

-- the same, where the bytes are known
abbrev pub TakesNext : Seen → Option (List ℕ) → Option (List ℕ) → List (List ℕ) → Option Walk → Type 0
TakesNext seen None after fields walk = ⊤
TakesNext seen (Some xs) None fields walk = ⊥
TakesNext seen (Some xs) (Some ys) fields walk = TakesAt (next_record default_config seen.state [] [] xs) (seen_in seen xs) ys fields walk

-- what was read of a record with this fault in its quotes and these fields: it is a row where there is no fault and each field
-- is text, and then these are its cells
abbrev pub IsAnswer : Option Fault → List (List ℕ) → List (List ℕ) → Next → Type 0
IsAnswer None fields cells next.Row = (cells ≡ fields) × AllText fields
IsAnswer None fields cells (next.Faulty found) = (found ≡ fault.NotUtf8) × ¬ (AllText fields) × (cells ≡ [])
IsAnswer None fields cells next.End = ⊥
IsAnswer (Some broken) fields cells answer = (answer ≡ next.Faulty broken) × (cells ≡ [])

-- reading a text gives this: the next record as `csv` has it, with what is seen of its quotes and its lines, or the end of the list,
-- where no byte is left and no record has begun
abbrev pub Gives : {R : Type 0} → Option Read → Seen → Records R → List ℕ → List (List ℕ) → Next → Type 0
Gives None seen list rest cells answer = (answer ≡ next.End) × (cells ≡ []) × (rest ≡ []) × (ends_at_end (list_state list) ≡ false)
Gives (Some p) seen list rest cells answer =
    (rest ≡ p.2) × (list_state list ≡ p.1) × (next_line list ≡ seen.line) × (row_line list ≡ seen.start) × IsAnswer seen.fault p.0 cells answer

-- the same, from what was left of a list to what is left of it, where that is known
abbrev pub GivesNext : {R : Type 0} → Option (List ℕ) → Option (List ℕ) → Records R → Records R → List (List ℕ) → Next → Type 0
GivesNext None after old new cells answer = ⊤
GivesNext (Some xs) None old new cells answer = ⊥
GivesNext (Some xs) (Some ys) old new cells answer =
    Gives (next_record default_config (list_state old) [] [] xs) (seen_in (unbegun (list_state old) (next_line old)) xs) new ys cells answer
