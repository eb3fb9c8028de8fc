use Rattle.std.proofs.Common.{◌≡◌, ℕ, List, ◌++◌, length}
use Rattle.std.specs.Io.KnownBytes.{Appends}
use Rattle.garde_service.proofs.wire.write_but.Given as goal

-- what was written so far, and then what is left, are the bytes
abbrev pub invariant-loop-bytes : goal.invariant-loop-bytes
invariant-loop-bytes g l =
    (written : List ℕ) × Appends (g.W.Write.contents l.fn.writer) (g.W.Write.contents l.writer) written
    × (g.B.Buf.unread l.fn.bytes ≡ written ++ g.B.Buf.unread l.bytes)

abbrev pub decreases-loop-bytes : goal.decreases-loop-bytes
decreases-loop-bytes g l = length (g.B.Buf.unread l.bytes)
