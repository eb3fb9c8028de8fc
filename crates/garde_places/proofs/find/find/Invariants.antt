use Rattle.std.proofs.Common.{◌≡◌, ◌+◌, map, drop}
use Rattle.json.specs.Json.{Json}
use Rattle.garde_report.specs.Part.{item_part}
use Rattle.json.specs.Tape.{node_token}
use Rattle.garde_places.specs.Index.{IndexHolds}
use Rattle.garde_places.specs.Marks.{MarksHold}
use Rattle.garde_places.specs.Steps.{Spells, tokens_before}
use Rattle.garde_places.proofs.find.find.Given as goal

abbrev pub invariant-loop-depth : goal.invariant-loop-depth
invariant-loop-depth l = record {
  value : (j : Json) → Spells (map node_token l.nodes) j → (i : Json) × Spells (drop l.here (map node_token l.nodes)) i × (tokens_before (map item_part l.way) j ≡ l.here + tokens_before (drop l.depth (map item_part l.way)) i);
  hold : MarksHold (map node_token l.nodes) l.marks;
  names : IndexHolds (map node_token l.nodes) l.index;
}
