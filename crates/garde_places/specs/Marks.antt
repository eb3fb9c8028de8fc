-- Items that were found before.
use Rattle.std.specs.Prelude.{◌≡◌, ℕ, ◌+◌, ◌<◌, List, length, drop, slice_index_or}
use Rattle.json.specs.Token.{Token}
use Rattle.json.specs.Json.{Items}
use Rattle.garde_places.specs.declared.find.Mark.{Mark}
use Rattle.garde_places.specs.Steps.{SpellItems, item_spot}

-- The mark is at the item of its index, so the walks to later items may begin there.
abbrev pub MarkHolds : List Token → Mark → Type 0
MarkHolds ts m = (js : Items) → SpellItems (drop m.first ts) js → (rest : Items) × SpellItems (drop m.here ts) rest × ((n : ℕ) → item_spot m.first (m.index + n) js ≡ item_spot m.here n rest)

abbrev pub start : Mark
start = record { first = 0; index = 0; here = 0 }

abbrev pub mark_of : List Mark → ℕ → Mark
mark_of marks depth = slice_index_or marks depth start

abbrev pub MarksHold : List Token → List Mark → Type 0
MarksHold ts marks = (k : ℕ) → k < length marks → MarkHolds ts (mark_of marks k)
