use Rattle.std.proofs.Common.{◌≡◌, ◌-◌, ◌^◌, ℕ, List, [], false}
use Rattle.std.specs.Io.KnownBytes.{Consumes}
use Rattle.garde_check.specs.Users.{IsCut, size_of}
use Rattle.garde_check.proofs.running.take_lines.Given as goal

-- the reader gave a text, of which lines were cut off
abbrev pub invariant-loop-lines : goal.invariant-loop-lines
invariant-loop-lines g l =
    ((text : List ℕ) × Consumes (g.S.Source.remaining l.fn.reader) (g.S.Source.remaining l.reader) text
    × IsCut text [] l.lines.users.items l.lines.rest.items)
    × (g.S.Source.has_failed l.reader ≡ false)

-- each turn adds to the lines or to the rest, of which there are never so many
abbrev pub decreases-loop-lines : goal.decreases-loop-lines
decreases-loop-lines g l = 2 ^ 129 - size_of l.lines.users.items l.lines.rest.items
