use Rattle.std.proofs.Common.{◌≡◌, List, map, take}
use Rattle.std.specs.Prelude.{IfOk}
use Rattle.serde_json.specs.View.{view}
use Rattle.garde_json.specs.Json.{part_json}
use Rattle.garde_report.specs.Part.{Part}
use Rattle.garde_json.proofs.value.path.path_in.Given as goal

-- the items so far are the trees of components, and the path has these
abbrev pub invariant-loop-item : goal.invariant-loop-item
invariant-loop-item l = (parts : List Part) × (map view (take l.item-index l.item-items) ≡ map part_json parts) × IfOk l.path (λ path. path ≡ parts)
