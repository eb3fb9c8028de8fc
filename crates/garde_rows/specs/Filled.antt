-- Where the fields of a row lie.
use Rattle.std.specs.Prelude.{◌≤◌, ⊤, ℕ, List, take}
use Rattle.std.specs.Borrow.{Bor}
use Rattle.garde_tape.specs.declared.field.FieldValue.{FieldValue}
use Rattle.garde_rows.specs.declared.fields.Filled.{Filled}
use Rattle.garde_rows.specs.declared.fields.Filled.TheVariants.{Near, Far}

-- the fields, where the room of the caller has these
abbrev pub held : Filled → List (Bor (List ℕ) × FieldValue) → List (Bor (List ℕ) × FieldValue)
held (Near count) room = take count room
held (Far fields) room = fields.items

-- they are not more than there is room for
abbrev pub IsWithin : Filled → Type 0
IsWithin (Near count) = count ≤ 8
IsWithin (Far fields) = ⊤
