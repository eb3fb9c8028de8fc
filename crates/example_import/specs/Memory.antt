-- A table in memory.
use Rattle.std.specs.Prelude.{List, map, take, ℕ}
use Rattle.example_import.specs.Line.{Line, line_of}
use Rattle.example_import.specs.declared.row.Row.{Row}

-- the lines of the first rows, so many
abbrev pub first_lines : ℕ → List Row → List Line
first_lines count rows = map line_of (take count rows)
