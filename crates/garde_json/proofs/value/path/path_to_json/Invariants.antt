use Rattle.std.proofs.Common.{◌≡◌, ◌++◌, map, length, reverse}
use Rattle.serde_json.specs.View.{view}
use Rattle.garde_json.specs.Json.{part_json}
use Rattle.garde_json.proofs.value.path.path_to_json.Given as goal

-- the items so far and the trees of what is left are those of the path
abbrev pub invariant-loop-kind : goal.invariant-loop-kind
invariant-loop-kind l = map view l.items.items ++ map part_json (reverse l.components) ≡ map part_json l.path

abbrev pub decreases-loop-kind : goal.decreases-loop-kind
decreases-loop-kind l = length l.components
