-- The sentences that faults and errors are printed as.
use Rattle.std.specs.Prelude.{ℕ, List, ◌++◌, Option, None, Some, codes}
use Rattle.std.specs.Fmt.{decimal}
use Rattle.garde_csv.specs.declared.fault.Fault.{Fault}
use Rattle.garde_csv.specs.declared.fault.Fault.TheVariants as fault
use Rattle.garde_csv.specs.declared.list_error.ListError.{ListError}
use Rattle.garde_csv.specs.declared.list_error.ListError.TheVariants as stop

abbrev pub fault_text : Fault → List ℕ
fault_text (fault.OpenQuote line) = codes "a quote in line " ++ (decimal line ++ codes " is not closed")
fault_text (fault.TextBehindQuote line) = codes "text behind a closing quote in line " ++ decimal line
fault_text (fault.QuoteInside line) = codes "a quote in line " ++ (decimal line ++ codes " inside of a cell without quotes")
fault_text fault.NotUtf8 = codes "not UTF-8"

-- what an error of the source is printed as is not said
abbrev pub list_error_text : ListError → Option (List ℕ)
list_error_text (stop.Io error) = None
list_error_text stop.Memory = Some (codes "out of memory")
list_error_text stop.Stopped = Some (codes "the list could not be read before")
