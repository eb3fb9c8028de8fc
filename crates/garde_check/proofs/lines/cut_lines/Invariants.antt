use Rattle.std.proofs.Common.{length}
use denote.Text.{Utf8}
use denote.Shadow.{shadow}
use Rattle.garde_check.specs.Users.{IsCut}
use Rattle.garde_check.proofs.lines.cut_lines.Given as goal

-- the rest is text, and the lines so far were cut off before it
abbrev pub invariant-loop-line : goal.invariant-loop-line
invariant-loop-line l = shadow (Utf8 l.rest) × IsCut l.text l.initial.users.items l.users.items l.rest

abbrev pub decreases-loop-line : goal.decreases-loop-line
decreases-loop-line l = length l.rest
