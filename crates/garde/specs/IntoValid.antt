-- What is printed where no valid value was made.
use Rattle.std.specs.Prelude.{ℕ, List, codes}
use Rattle.garde_report.specs.Report.{report_text}
use Rattle.garde.specs.declared.unvalidated.IntoValidError.{IntoValidError}
use Rattle.garde.specs.declared.unvalidated.IntoValidError.TheVariants as errors

-- the text of the report, or that memory ran out
abbrev pub into_valid_text : {T : Type 0} → IntoValidError T → List ℕ
into_valid_text (errors.Report report) = report_text report
into_valid_text (errors.Memory _) = codes "out of memory"
