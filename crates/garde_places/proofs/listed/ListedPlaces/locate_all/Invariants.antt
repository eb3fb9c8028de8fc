use Rattle.std.proofs.Common.{◌≡◌, ◌++◌, map, Some}
use Rattle.json.specs.Json.{Json, document}
use Rattle.garde_places.specs.Fault.{fault_entry}
use Rattle.garde_places.specs.Listed.{AreListed}
use Rattle.garde_places.proofs.listed.ListedPlaces.locate_all.Given as goal

-- the faults so far have their places, and the others are to come
abbrev pub invariant-loop-path : goal.invariant-loop-path
invariant-loop-path l = record {
  faults : map fault_entry l.faults.items ++ l.path-iterator ≡ l.report;
  places : (j : Json) → document l.initial.self.0 ≡ Some j → AreListed l.initial.self.1 j l.faults.items;
  text : l.self ≡ l.initial.self;
}
