use Rattle.std.proofs.Common.{◌≡◌, map, take}
use Rattle.garde_library.specs.Places.{place_of}
use Rattle.garde_library.proofs.places.places_of.Given as goal

-- the places of the faults before this one are there
abbrev pub invariant-loop-fault : goal.invariant-loop-fault
invariant-loop-fault l = map place_of (take l.fault-index l.faults) ≡ l.places.items
