use Rattle.std.proofs.Common.{◌≡◌, take}
use Rattle.std.specs.Prelude.{count_by}
use Rattle.garde_engines.specs.Counts.{is_outside}
use Rattle.garde_engines.proofs.count.count_in_block.Given as goal

-- so many of the bytes before this one
abbrev pub invariant-loop-byte : goal.invariant-loop-byte
invariant-loop-byte l = l.count ≡ count_by (is_outside l.low l.high) (take l.byte-index l.block)
