-- What is printed of the report of a row.
use Rattle.std.specs.Prelude.{◌≡◌, ℕ, List, map, Option, Some, None}
use Rattle.std.specs.List.{All}
use Rattle.garde.specs.Words.{Entry, report_text}
use Rattle.garde_places.specs.Fault.{fault_entry}
use Rattle.garde_places.specs.Format.{lines_text}
use Rattle.garde_places.specs.declared.fault.Fault.{Fault}
use Rattle.garde_places.specs.declared.printed.Printed.{Printed}

-- the fault stands at the beginning of this line
abbrev pub AtLine : ℕ → Fault → Type 0
AtLine line f = (f.place.line ≡ line) × (f.place.column ≡ 1)

-- The text has a line for each fault of the report, in its order: in this format, under the name of this file, and at the beginning of
-- one line of it.
pub record TellsPlaced (printed : Printed) (report : List Entry) (text : List ℕ) : Type 0 where
  pub line : ℕ
  pub faults : List Fault
  pub are_faults : map fault_entry faults ≡ report
  pub are_there : All (AtLine line) faults
  pub is_text : text ≡ lines_text printed.format printed.file.now faults

-- the text is what is printed of the report: a line for each fault, with its place where that is asked for, and else as a report is printed
abbrev pub Tells : Option Printed → List Entry → List ℕ → Type 0
Tells None report text = text ≡ report_text report
Tells (Some printed) report text = TellsPlaced printed report text
