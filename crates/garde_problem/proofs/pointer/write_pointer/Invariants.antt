use Rattle.std.proofs.Common.{◌≡◌, ℕ, List, ◌++◌, length, reverse}
use Rattle.std.specs.Fmt.{HasWritten, IsPlainFormatter}
use Rattle.garde_problem.specs.Pointer.{pointer, part_texts, path_pointer}
use Rattle.garde_problem.proofs.pointer.write_pointer.Given as goal

-- what is written, and then the pointer of what is left, are the whole pointer
abbrev pub invariant-loop-kind : goal.invariant-loop-kind
invariant-loop-kind g l =
    IsPlainFormatter l.initial.f
    → ((written : List ℕ) × HasWritten g.W.Write.write_str_gives l.initial.f written l.f
    × (written ++ pointer (part_texts (reverse l.components)) ≡ path_pointer l.path))

abbrev pub decreases-loop-kind : goal.decreases-loop-kind
decreases-loop-kind g l = length l.components
