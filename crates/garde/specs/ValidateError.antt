-- What the error of validation prints.
use Rattle.std.specs.Prelude.{ℕ, List, codes}
use Rattle.garde_report.specs.Report.{report_text}
use Rattle.garde.specs.declared.validate_error.ValidateError.{ValidateError}
use Rattle.garde.specs.declared.validate_error.ValidateError.TheVariants as errors

-- the text of the report, or that memory ran out
abbrev pub validate_error_text : ValidateError → List ℕ
validate_error_text (errors.Report report) = report_text report
validate_error_text errors.Memory = codes "out of memory"
