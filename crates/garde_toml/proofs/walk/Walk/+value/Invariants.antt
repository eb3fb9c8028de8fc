use Rattle.std.proofs.Common.{◌+◌, ◌*◌}
use denote.Shadow.{shadow}
use denote.Text.{Utf8}
use Rattle.garde_toml.proofs.walk.Walk.+value.Given as goal

abbrev pub decreases-value : goal.decreases-value
decreases-value l = 3 * l.depth + 1

abbrev pub decreases-pair : goal.decreases-pair
decreases-pair l = 3 * l.depth + 2

abbrev pub decreases-array : goal.decreases-array
decreases-array l = 3 * l.depth + 3

abbrev pub decreases-inline_table : goal.decreases-inline_table
decreases-inline_table l = 3 * l.depth + 3

-- what is left is text
abbrev pub invariant-array-loop : goal.invariant-array-loop
invariant-array-loop l = shadow (Utf8 l.rest)

abbrev pub invariant-inline_table-loop : goal.invariant-inline_table-loop
invariant-inline_table-loop l = shadow (Utf8 l.rest)
