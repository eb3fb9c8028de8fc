use Rattle.std.proofs.Common.{◌≡◌, ◌-◌, ℕ, List, length, map, drop}
use Rattle.json.specs.Json.{Members}
use Rattle.json.specs.Tape.{node_token}
use Rattle.garde_places.specs.Steps.{SpellMembers, member_spot}
use Rattle.garde_places.specs.Index.{named}
use Rattle.garde_places.proofs.Walking.{or_found}
use Rattle.garde_places.proofs.index.names_from.Given as goal

abbrev pub invariant-loop-here : goal.invariant-loop-here
invariant-loop-here l =
    (ms : Members) → SpellMembers (drop l.at (map node_token l.nodes)) ms
    → (rest : Members) × SpellMembers (drop l.here (map node_token l.nodes)) rest × ((name : List ℕ) → member_spot l.at name ms ≡ or_found (member_spot l.here name rest) (named l.names name))

abbrev pub decreases-loop-here : goal.decreases-loop-here
decreases-loop-here l = length l.nodes - l.here
