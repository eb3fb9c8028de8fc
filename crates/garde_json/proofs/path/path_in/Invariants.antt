use Rattle.std.proofs.Common.{◌≡◌, ◌++◌, List, length, Some}
use Rattle.std.specs.Prelude.{IfOk}
use Rattle.garde_json.specs.Json.{part_json}
use Rattle.garde_report.specs.Part.{Part}
use Rattle.garde_json.proofs.Listed.{list_of, trees}
use Rattle.garde_json.proofs.path.path_in.Given as goal

-- the components so far and the items that are left are those of the list, and the path has those so far
abbrev pub invariant-loop-item : goal.invariant-loop-item
invariant-loop-item l = (parts : List Part) × (list_of l.tree ≡ Some (trees part_json parts ++ l.items)) × IfOk l.path (λ path. path ≡ parts)

abbrev pub decreases-loop-item : goal.decreases-loop-item
decreases-loop-item l = length l.items
