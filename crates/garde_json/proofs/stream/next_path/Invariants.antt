use Rattle.std.proofs.Common.{◌≡◌, List, length}
use Rattle.std.specs.Prelude.{IfOk}
use Rattle.garde_json.specs.Json.{part_json}
use Rattle.garde_report.specs.Part.{Part}
use Rattle.garde_json.proofs.Taken.{Goes}
use Rattle.garde_json.proofs.stream.next_path.Given as goal

-- the components so far, and what is still to come; the path has those so far
abbrev pub invariant-components : goal.invariant-components
invariant-components l = (parts : List Part) × Goes part_json parts l.initial.reader l.reader × IfOk l.path (λ path. path ≡ parts)

abbrev pub decreases-components : goal.decreases-components
decreases-components l = length l.reader
