-- The error of validation that reports at most so many faults: what it prints, and what it is where all were asked for.
use Rattle.std.specs.Prelude.{ℕ, List, ◌++◌, codes}
use Rattle.garde_report.specs.Report.{report_text}
use Rattle.garde.specs.declared.first_error.FirstError.{FirstError}
use Rattle.garde.specs.declared.first_error.FirstError.TheVariants as errors
use Rattle.garde.specs.declared.validate_error.ValidateError.{ValidateError}
use Rattle.garde.specs.declared.validate_error.ValidateError.TheVariants as wholes

-- the text of the report, and after the first faults that there are more; or that memory ran out
abbrev pub first_error_text : FirstError → List ℕ
first_error_text (errors.All report) = report_text report
first_error_text (errors.First report) = report_text report ++ codes "there are more\n"
first_error_text errors.Memory = codes "out of memory"

-- the error of a call that asks for every fault
abbrev pub whole_error : FirstError → ValidateError
whole_error (errors.All report) = wholes.Report report
whole_error (errors.First report) = wholes.Report report
whole_error errors.Memory = wholes.Memory
