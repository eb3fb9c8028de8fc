-- The JSON tree of the first faults of more.
use Rattle.std.specs.Prelude.{List, Bool, true, false, codes, map}
use Rattle.serde_json.specs.Data.{Data, array, boolean, object, member, no_members}
use Rattle.serde_json.specs.View.{items_of}
use Rattle.garde_report.specs.Report.{Entry}
use Rattle.garde_json.specs.Json.{entry_json, report_json}

-- the array of the faults in order
abbrev pub entries_json : List Entry → Data
entries_json entries = array (items_of (map entry_json entries))

-- an object of the member `errors` as a report has it, and the member `more`, which is true
abbrev pub first_json : List Entry → Data
first_json entries = object (member (codes "errors") (entries_json entries) (member (codes "more") (boolean true) no_members))

-- a report, or the first faults of more
abbrev pub told_json : Bool → List Entry → Data
told_json false entries = report_json entries
told_json true entries = first_json entries
