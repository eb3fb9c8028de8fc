-- What is written of a report.
use Rattle.std.specs.Prelude.{◌++◌, ◌-◌, ◌^◌, ℕ, List, [], Option, Some, None, codes, decimal, is_some, length, min, nat_lt, take, Bool, if◌then◌else◌}
use Rattle.serde_json.specs.Written.{compact_text}
use Rattle.garde.specs.Tree.{Tree, nodes}
use Rattle.garde.specs.Words.{Entry, report_text}
use Rattle.garde_json.specs.First.{told_json}
use Rattle.garde_check.specs.declared.mode.Command.{Command}
use Rattle.garde_check.specs.declared.mode.Command.TheVariants.{Text, Nodes, Json, Body}

-- the faults that are written: all of them, or at most so many
abbrev pub first_in : Option ℕ → List Entry → List Entry
first_in None all = all
first_in (Some most) all = take most all

-- how many are written, where there are more
abbrev pub more_in : Option ℕ → List Entry → Option ℕ
more_in None all = None
more_in (Some most) all = if nat_lt most (length all) then Some most else None

-- how many nodes were made of a tree of which all faults are written, as far as a `usize` goes
abbrev pub nodes_in : Option ℕ → Tree → Option ℕ
nodes_in None t = Some (min (nodes t) (2 ^ 64 - 1))
nodes_in (Some most) t = None

-- the line that there are more faults than were written
abbrev pub more_line : Option ℕ → List ℕ
more_line None = []
more_line (Some most) = decimal most ++ codes " faults are told; there are more\n"

-- the line with a number of nodes
abbrev pub nodes_line : Option ℕ → List ℕ
nodes_line None = []
nodes_line (Some n) = codes "nodes: " ++ (decimal n ++ codes "\n")

-- the faults as text, and behind them the lines that there are more and of the nodes
abbrev pub report_lines : List Entry → Option ℕ → Option ℕ → List ℕ
report_lines told more count = report_text told ++ (more_line more ++ nodes_line count)

-- the compact text of the JSON tree of the report, or with `has_more` of the first faults, and a line feed
abbrev pub json_line : Bool → List Entry → List ℕ
json_line has_more told = compact_text (told_json has_more told) ++ codes "\n"

-- what a command writes of these faults, where there are more than so many, and where so many nodes were made
abbrev pub told_text : Command → List Entry → Option ℕ → Option ℕ → List ℕ
told_text Text told more count = report_lines told more None
told_text Nodes told more count = report_lines told more count
told_text Json told more count = json_line (is_some more) told
told_text Body told more count = json_line (is_some more) told
