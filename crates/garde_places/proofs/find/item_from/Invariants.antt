use Rattle.std.proofs.Common.{◌-◌, ◌≤◌, map}
use Rattle.json.specs.Tape.{node_token}
use Rattle.garde_places.specs.Marks.{MarkHolds}
use Rattle.garde_places.proofs.find.item_from.Given as goal

abbrev pub invariant-loop-here : goal.invariant-loop-here
invariant-loop-here l = record {
  holds : MarkHolds (map node_token l.nodes) (record { first = l.first; index = l.passed; here = l.here });
  earlier : l.passed ≤ l.index;
}

abbrev pub decreases-loop-here : goal.decreases-loop-here
decreases-loop-here l = l.index - l.passed
