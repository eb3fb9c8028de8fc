use Rattle.std.proofs.Common.{◌≡◌, ◌++◌, map}
use Rattle.garde_html.specs.Fields.{other_faults, texts_of}
use Rattle.garde_html.proofs.faults.other_faults.Given as goal

-- those that were found, and then those to come, are all
abbrev pub invariant-loop-fault : goal.invariant-loop-fault
invariant-loop-fault l =
    map (λ fault. fault.now) l.others.items ++ other_faults (texts_of l.fields) l.fault-iterator ≡ other_faults (texts_of l.fields) l.report
