use Rattle.std.proofs.Common.{◌≡◌, ◌++◌, string_bytes}
use Rattle.garde_report.specs.Report.{report_text}
use Rattle.garde_library.proofs.lines.push_report.Given as goal

-- what is written, and then the lines to come, are the text as it was and all lines
abbrev pub invariant-loop-path : goal.invariant-loop-path
invariant-loop-path l = string_bytes l.text ++ report_text l.path-iterator ≡ string_bytes l.initial.text ++ report_text l.report
