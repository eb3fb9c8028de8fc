use Rattle.std.proofs.Common.{◌≡◌, ◌++◌, drop}
use Rattle.std.specs.Prelude.{string_bytes}
use Rattle.garde_places.specs.Format.{lines_text}
use Rattle.garde_places.proofs.format.Format.lines.Given as goal

-- the lines so far, and those of the faults that are left, are those of all
abbrev pub invariant-loop-fault : goal.invariant-loop-fault
invariant-loop-fault l =
    string_bytes l.text ++ lines_text l.self l.file (drop l.fault-index l.faults) ≡ lines_text l.self l.file l.faults
