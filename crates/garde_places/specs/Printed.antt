-- The line of a fault that stands in no report.
use Rattle.std.specs.Prelude.{◌≡◌, ℕ, List, [], ◌∷◌}
use Rattle.garde_report.specs.Part.{Part}
use Rattle.garde_places.specs.declared.fault.Fault.{Fault}
use Rattle.garde_places.specs.declared.format.Format.{Format}
use Rattle.garde_tape.specs.declared.place.Place.{Place}
use Rattle.garde_places.specs.Format.{lines_text}

-- the text is the line of a fault of this place, this path and this message
abbrev pub IsLineOf : Format → List ℕ → Place → List Part → List ℕ → List ℕ → Type 0
IsLineOf format file place path message text =
    (f : Fault) × (f.place ≡ place) × (f.path.now ≡ path) × (f.error.now ≡ message) × (text ≡ lines_text format file (f ∷ []))
