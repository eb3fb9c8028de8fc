use Rattle.std.proofs.Common.{◌≡◌, ℕ, List, ◌++◌, length, reverse}
use Rattle.std.specs.Fmt.{HasWritten, IsPlainFormatter}
use Rattle.std.specs.List.{flat_map}
use Rattle.garde_report.specs.Path.{part_text}
use Rattle.garde_problem.specs.Escaped.{escaped_path, escaped_path_text}
use Rattle.garde_problem.proofs.escaped.write_path.Given as goal

-- what is written, and then the components that are left, are the whole path
abbrev pub invariant-loop-kind : goal.invariant-loop-kind
invariant-loop-kind g l =
    IsPlainFormatter l.fn.f
    → ((written : List ℕ) × HasWritten g.W.Write.write_str_gives l.fn.f written l.f
    × (written ++ flat_map part_text (escaped_path (reverse l.components)) ≡ escaped_path_text l.path))

abbrev pub decreases-loop-kind : goal.decreases-loop-kind
decreases-loop-kind g l = length l.components
