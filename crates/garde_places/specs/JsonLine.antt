-- What a fault prints as a line of JSON.
use Rattle.std.specs.Prelude.{ℕ, List, codes, decimal}
use Rattle.json.specs.Json.{Json, string, number, object, member}
use Rattle.garde_problem.specs.Coded.{message_parts}
use Rattle.garde_problem.specs.Escaped.{escaped_path_text}
use Rattle.garde_problem.specs.Pointer.{path_pointer}
use Rattle.garde_problem.specs.Problem.{parts_members}
use Rattle.garde_places.specs.declared.fault.Fault.{Fault}

-- the file, the path, the pointer, the line and the column of a fault, and then the members of its message
abbrev pub fault_json : List ℕ → Fault → Json
fault_json file f = object (
    member (codes "file") (string file)
    (member (codes "path") (string (escaped_path_text f.path.now))
    (member (codes "pointer") (string (path_pointer f.path.now))
    (member (codes "line") (number (decimal f.place.line))
    (member (codes "column") (number (decimal f.place.column))
    (parts_members (message_parts f.error.now)))))))
