use Rattle.std.proofs.Common.{◌≡◌, length}
use Rattle.json.specs.Find.{later_or}
use Rattle.garde_tape.specs.Look.{get_in}
use Rattle.garde_tape.proofs.find.get_member.Given as goal

abbrev pub invariant-loop-key : goal.invariant-loop-key
invariant-loop-key l = get_in l.name l.fn.all ≡ later_or (get_in l.name l.members) l.last

abbrev pub decreases-loop-key : goal.decreases-loop-key
decreases-loop-key l = length l.members
