-- What a fault prints as an annotation of GitHub.
use Rattle.std.specs.Prelude.{ℕ, List, ◌++◌, codes, decimal}
use Rattle.garde_problem.specs.Escaped.{escaped_text}
use Rattle.garde_places.specs.Escape.{written_text}
use Rattle.garde_places.specs.Short.{told_text}
use Rattle.garde_places.specs.declared.escape.Escape.TheVariants.{Data, Property}
use Rattle.garde_tape.specs.declared.place.Place.{Place}
use Rattle.garde_places.specs.declared.fault.Fault.{Fault}

-- the name of a file as a property, and then escaped
abbrev pub file_text : List ℕ → List ℕ
file_text file = escaped_text (written_text Property file)

-- `,line=LINE,col=COLUMN::`
abbrev pub spot_text : Place → List ℕ
spot_text p = codes ",line=" ++ (decimal p.line ++ (codes ",col=" ++ (decimal p.column ++ codes "::")))

-- `::error file=FILE,line=LINE,col=COLUMN::PATH: MESSAGE`
abbrev pub github_text : List ℕ → Fault → List ℕ
github_text file f = codes "::error file=" ++ (file_text file ++ (spot_text f.place ++ written_text Data (told_text f)))
