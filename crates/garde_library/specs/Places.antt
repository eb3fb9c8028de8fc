-- Where the faults of a body are.
use Rattle.std.specs.Prelude.{◌≡◌, ◌<◌, ◌⊎◌, ℕ, List, [], map, Ok, Err, Some}
use Rattle.json.specs.Json.{Json, document}
use Rattle.garde_report.specs.Report.{Entry}
use Rattle.garde_tape.specs.Input.{without_mark}
use Rattle.garde_schema.specs.declared.first_read_error.FirstReadError.TheVariants.{Parse, All, First, Memory}
use Rattle.garde_places.specs.Fault.{ArePlaced, fault_entry}
use Rattle.garde_places.specs.declared.fault.Fault.{Fault}
use Rattle.garde_library.specs.Checked.{Reading}
use Rattle.garde_library.specs.declared.place.Place.{Place}

-- where a fault is, as C sees it
abbrev pub place_of : Fault → Place
place_of f = record { line = f.place.line; column = f.place.column }

-- These are the places of the faults of a report of bytes, in its order: each as `garde_places` finds it in the JSON text that the bytes are
-- without their mark.
abbrev pub ArePlacesOf : List ℕ → List Entry → List Place → Type 0
ArePlacesOf bytes report places =
    (faults : List Fault) × (map fault_entry faults ≡ report) × (map place_of faults ≡ places)
    × ((j : Json) → document (without_mark bytes) ≡ Some j → ArePlaced (without_mark bytes) j faults)

-- the same of the faults of the result of reading
abbrev pub ArePlaces : List ℕ → Reading → List Place → Type 0
ArePlaces bytes (Ok done) places = places ≡ []
ArePlaces bytes (Err (All report)) places = ArePlacesOf bytes report places
ArePlaces bytes (Err (First report)) places = ArePlacesOf bytes report places
ArePlaces bytes (Err (Parse error)) places = places ≡ []
ArePlaces bytes (Err Memory) places = places ≡ []

-- these are the places, if there is room for one: else none is looked for
abbrev pub AreFound : List ℕ → Reading → ℕ → List Place → Type 0
AreFound bytes read room places = ((0 < room) × ArePlaces bytes read places) ⊎ ((room ≡ 0) × (places ≡ []))
