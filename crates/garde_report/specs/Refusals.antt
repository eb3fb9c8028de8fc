-- What the errors of failed calls print.
use Rattle.std.specs.Prelude.{ℕ, List, codes}
use Rattle.garde_report.specs.declared.rc_list.JoinError.{JoinError}
use Rattle.garde_report.specs.declared.rc_list.JoinError.TheVariants as join
use Rattle.garde_report.specs.declared.error.rule_error.RuleError.{RuleError}
use Rattle.garde_report.specs.declared.error.rule_error.RuleError.TheVariants as rule

-- why an item could not be appended
abbrev pub join_error_text : JoinError → List ℕ
join_error_text join.Memory = codes "out of memory"
join_error_text join.TooLong = codes "the list is full"

-- the message of a fault, or that memory ran out
abbrev pub rule_error_text : RuleError → List ℕ
rule_error_text (rule.Fault message) = message
rule_error_text rule.Memory = codes "out of memory"
