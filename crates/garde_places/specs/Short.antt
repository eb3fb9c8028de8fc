-- What a fault prints for people and for editors.
use Rattle.std.specs.Prelude.{ℕ, List, ◌∷◌, ◌++◌, codes, decimal}
use Rattle.garde_report.specs.Report.{entry_text}
use Rattle.garde_problem.specs.Coded.{message_parts}
use Rattle.garde_problem.specs.Escaped.{escaped_path, escaped_text}
use Rattle.garde_places.specs.Escape.{written_text}
use Rattle.garde_places.specs.declared.escape.Escape.TheVariants.{File}
use Rattle.garde_tape.specs.declared.place.Place.{Place}
use Rattle.garde_places.specs.declared.fault.Fault.{Fault}

-- the name of a file, escaped, and a colon by its number
abbrev pub file_text : List ℕ → List ℕ
file_text file = written_text File (escaped_text file)

-- the sentence of a fault, behind its path where it has one, escaped
abbrev pub told_text : Fault → List ℕ
told_text f = entry_text (escaped_path f.path.now) (escaped_text (message_parts f.error.now).detail)

-- `LINE:COLUMN: error: `
abbrev pub spot_text : Place → List ℕ
spot_text p = decimal p.line ++ (58 ∷ (decimal p.column ++ codes ": error: "))

-- `FILE:LINE:COLUMN: error: PATH: MESSAGE`
abbrev pub short_text : List ℕ → Fault → List ℕ
short_text file f = file_text file ++ (58 ∷ (spot_text f.place ++ told_text f))
