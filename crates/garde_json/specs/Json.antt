-- The written forms of paths and reports as JSON trees.
use Rattle.std.specs.Prelude.{ℕ, List, map, codes}
use Rattle.serde_json.specs.Data.{Data, string, array, object, item, no_items, member, no_members}
use Rattle.serde_json.specs.View.{items_of}
use Rattle.garde_report.specs.declared.error.component.Kind.{Kind}
use Rattle.garde_report.specs.declared.error.component.Kind.TheVariants.{None, Key, Index}
use Rattle.garde_report.specs.Part.{Part}
use Rattle.garde_report.specs.Report.{Entry}

-- the name of a kind
abbrev pub kind_text : Kind → List ℕ
kind_text None = codes "none"
kind_text Key = codes "key"
kind_text Index = codes "index"

-- a component is an array of two texts: the name of its kind, and its text
abbrev pub part_json : Part → Data
part_json p = array (item (string (kind_text p.kind)) (item (string p.text) no_items))

-- a path is the array of its components from the root
abbrev pub path_json : List Part → Data
path_json path = array (items_of (map part_json path))

-- an error is an object with the one member `message`, a text
abbrev pub error_json : List ℕ → Data
error_json message = object (member (codes "message") (string message) no_members)

-- a fault is an array of two values: its path and its error
abbrev pub entry_json : Entry → Data
entry_json e = array (item (path_json e.0) (item (error_json e.1) no_items))

-- a report is an object with the one member `errors`, the array of its faults in order
abbrev pub report_json : List Entry → Data
report_json entries = object (member (codes "errors") (array (items_of (map entry_json entries))) no_members)
