use Rattle.std.proofs.Common.{◌≡◌, ◌+◌, ◌≤◌, drop}
use Rattle.garde_tape.specs.Place.{text_start, place_after}
use Rattle.garde_tape.proofs.place.place_of_byte.Given as goal

-- the place behind what is left is that behind all
abbrev pub invariant-loop-byte : goal.invariant-loop-byte
invariant-loop-byte l = record {
  line : l.here.line ≤ l.byte-index + 1;
  column : l.here.column ≤ l.byte-index + 1;
  place : place_after l.here (drop l.byte-index l.before) ≡ place_after text_start l.before;
}
