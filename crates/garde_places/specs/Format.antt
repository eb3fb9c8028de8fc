-- The formats in which faults with places are printed.
use Rattle.std.specs.Prelude.{ℕ, List, [], ◌∷◌, ◌++◌, Option, Some, None, if◌then◌else◌, codes}
use Rattle.std.specs.Str.{bytes_eq}
use Rattle.garde_problem.specs.Problem.{json_text}
use Rattle.garde_places.specs.declared.fault.Fault.{Fault}
use Rattle.garde_places.specs.declared.format.Format.{Format}
use Rattle.garde_places.specs.declared.format.Format.TheVariants as format
use Rattle.garde_places.specs.GitHub.{github_text}
use Rattle.garde_places.specs.JsonLine.{fault_json}
use Rattle.garde_places.specs.Short.{short_text}

-- the format of a name
abbrev pub format_of : List ℕ → Option Format
format_of name =
    if bytes_eq name (codes "short") then Some format.Short
    else if bytes_eq name (codes "json") then Some format.Json
    else if bytes_eq name (codes "github") then Some format.GitHub
    else None

-- what a fault prints in a format
abbrev pub line_text : Format → List ℕ → Fault → List ℕ
line_text format.Short file f = short_text file f
line_text format.Json file f = json_text (fault_json file f)
line_text format.GitHub file f = github_text file f

-- each fault in its line
abbrev pub lines_text : Format → List ℕ → List Fault → List ℕ
lines_text format file [] = []
lines_text format file (f ∷ fs) = line_text format file f ++ (10 ∷ lines_text format file fs)
