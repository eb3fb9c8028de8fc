-- The places of faults.
use Rattle.std.proofs.Common.{◌≡◌, ℕ, List, Some}
use Rattle.std.specs.Prelude.{map}
use Rattle.json.specs.Json.{Json, document}
use Rattle.garde_report.specs.Report.{Entry}
use Rattle.garde_tape.specs.Input.{without_mark}
use Rattle.garde_places.specs.Fault.{ArePlaced, fault_entry}
use Rattle.garde_places.specs.declared.fault.Fault.{Fault}
use Rattle.garde_library.specs.Places.{ArePlacesOf, place_of}
use Rattle.garde_library.specs.declared.place.Place.{Place}

pub are_places : (bytes : List ℕ) (report : List Entry) (places : List Place) (faults : List Fault) → map fault_entry faults ≡ report → map place_of faults ≡ places → ((j : Json) → document (without_mark bytes) ≡ Some j → ArePlaced (without_mark bytes) j faults) → ArePlacesOf bytes report places
are_places bytes report places faults told placed all = (faults, told, placed, all)
