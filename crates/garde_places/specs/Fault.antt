-- The places of the faults of a report.
use Rattle.std.specs.Prelude.{ℕ, List, Bool, true, false, ◌||◌, codes}
use Rattle.std.specs.List.{All}
use Rattle.std.specs.Ordering.{nat_cmp, ordering_then}
use Rattle.std.specs.declared.cmp.Ordering.{Ordering}
use Rattle.std.specs.Str.{bytes_eq}
use Rattle.json.specs.Json.{Json}
use Rattle.garde_report.specs.Part.{Part}
use Rattle.garde_report.specs.Report.{Entry}
use Rattle.garde_problem.specs.Coded.{message_parts}
use Rattle.garde_tape.specs.declared.place.Place.{Place}
use Rattle.garde_places.specs.declared.fault.Fault.{Fault}
use Rattle.garde_places.specs.Places.{IsPlaceOf, IsNamePlace}

-- a fault of this code speaks of the name of a member: no form knows it, or it comes twice
abbrev pub speaks_of_name : List ℕ → Bool
speaks_of_name code = bytes_eq code (codes "member_unknown") || bytes_eq code (codes "member_repeated")

abbrev pub IsPlaceBy : Bool → List ℕ → List Part → Json → Place → Type 0
IsPlaceBy true text path j place = IsNamePlace text path j place
IsPlaceBy false text path j place = IsPlaceOf text path j place

-- the place of a fault: that of the name of which its message speaks, or else of the value at its path
abbrev pub IsFaultPlace : List ℕ → List Part → List ℕ → Json → Place → Type 0
IsFaultPlace text path message j place = IsPlaceBy (speaks_of_name (message_parts message).code) text path j place

-- a fault as the report has it
abbrev pub fault_entry : Fault → Entry
fault_entry f = (f.path.now, f.error.now)

-- each of these faults has its place in the text
abbrev pub ArePlaced : List ℕ → Json → List Fault → Type 0
ArePlaced text j faults = All (λ (f : Fault). IsFaultPlace text f.path.now f.error.now j f.place) faults

-- where a fault stands, as two numbers
abbrev pub line_and_column : Fault → ℕ × ℕ
line_and_column f = (f.place.line, f.place.column)

-- the line is compared, and in one line the column
abbrev pub line_first : ℕ × ℕ → ℕ × ℕ → Ordering
line_first x y = ordering_then (nat_cmp x.0 y.0) (nat_cmp x.1 y.1)
