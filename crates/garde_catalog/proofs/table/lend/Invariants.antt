use Rattle.std.proofs.Common.{◌≡◌, map, take}
use Rattle.garde_catalog.specs.Lines.{line_of, owned_line}
use Rattle.garde_catalog.proofs.table.lend.Given as goal

-- the lines so far are those of the table
abbrev pub invariant-loop-code : goal.invariant-loop-code
invariant-loop-code l = map line_of l.lines.items ≡ map owned_line (take l.code-index l.owned)
