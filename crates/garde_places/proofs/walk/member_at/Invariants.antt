use Rattle.std.proofs.Common.{◌≡◌, ◌-◌, length, map, drop}
use Rattle.json.specs.Json.{Members}
use Rattle.json.specs.Tape.{node_token}
use Rattle.garde_places.specs.Steps.{SpellMembers, member_spot}
use Rattle.garde_places.proofs.Walking.{or_found}
use Rattle.garde_places.proofs.walk.member_at.Given as goal

abbrev pub invariant-loop-here : goal.invariant-loop-here
invariant-loop-here l =
    (ms : Members) → SpellMembers (drop l.at (map node_token l.nodes)) ms
    → (rest : Members) × SpellMembers (drop l.here (map node_token l.nodes)) rest × (member_spot l.at l.name ms ≡ or_found (member_spot l.here l.name rest) l.found)

abbrev pub decreases-loop-here : goal.decreases-loop-here
decreases-loop-here l = length l.nodes - l.here
