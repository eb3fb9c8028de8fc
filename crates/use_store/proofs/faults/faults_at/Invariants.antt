use Rattle.std.proofs.Common.{◌≡◌, ◌++◌, map}
use Rattle.std.specs.List.{All}
use Rattle.garde_places.specs.Fault.{fault_entry}
use Rattle.use_store.specs.Told.{AtLine}
use Rattle.use_store.proofs.faults.faults_at.Given as goal

-- the faults so far stand in this line, and the others are to come
abbrev pub invariant-loop-path : goal.invariant-loop-path
invariant-loop-path l = record {
  faults : map fault_entry l.faults.items ++ l.path-iterator ≡ l.report;
  places : All (AtLine l.line) l.faults.items;
}
