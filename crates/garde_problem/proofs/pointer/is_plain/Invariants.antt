use Rattle.std.proofs.Common.{◌≡◌, drop}
use Rattle.garde_problem.specs.Pointer.{token}
use Rattle.garde_problem.proofs.pointer.is_plain.Given as goal

-- the text is its own token if what is left is its own
abbrev pub invariant-loop-byte : goal.invariant-loop-byte
invariant-loop-byte l = token (drop l.byte-index l.text) ≡ drop l.byte-index l.text → token l.text ≡ l.text
