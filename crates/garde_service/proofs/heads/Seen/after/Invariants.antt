use Rattle.std.proofs.Common.{◌≡◌, drop}
use Rattle.garde_service.specs.Heads.{looked}
use Rattle.garde_service.proofs.heads.Seen.after.Given as goal

-- what was seen so far and what is left give what all gives
abbrev pub invariant-loop-byte : goal.invariant-loop-byte
invariant-loop-byte l = looked l.seen (drop l.byte-index l.bytes) ≡ looked l.fn.self l.bytes
