-- The texts of the handler `Czech`: of what a rule finds, and of the faults of form.
use Rattle.std.specs.Prelude.{ℕ, List}
use Rattle.garde.specs.Handlers.{Datum, length_lower, length_greater, range_lower, range_greater, prefix, decimal, phrase}
use Rattle.garde_schema.specs.declared.fault.FormFault.{FormFault}
use Rattle.garde_schema.specs.declared.fault.FormFault.TheVariants as faults
use Rattle.example_order.specs.declared.czech.TheConstants as words

abbrev pub czech_text : Datum → List ℕ
czech_text (length_lower n) = phrase words.SHORTER.now (decimal n)
czech_text (length_greater n) = phrase words.LONGER.now (decimal n)
czech_text (range_lower s) = phrase words.LESS.now s
czech_text (range_greater s) = phrase words.GREATER.now s
czech_text (prefix s) = phrase words.PREFIX.now s
czech_text _ = words.OTHER.now

abbrev pub czech_form_text : FormFault → List ℕ
czech_form_text (faults.Wrong wanted found) = words.FORM.now
czech_form_text (faults.OutOfRange of) = words.RANGE.now
czech_form_text faults.Missing = words.MISSING.now
czech_form_text faults.Repeated = words.REPEATED.now
czech_form_text faults.Unknown = words.UNKNOWN.now
czech_form_text faults.NotOneOf = words.OTHER.now
czech_form_text faults.RowLength = words.OTHER.now
