-- The faults of the fields of a form.
use Rattle.std.specs.Prelude.{ℕ, Bool, if◌then◌else◌, List, [], ◌∷◌, Option, Some, None, map, filter}
use Rattle.std.specs.Borrow.{Bor}
use Rattle.std.specs.Option.{is_none}
use Rattle.std.specs.Str.{bytes_eq}
use Rattle.garde_report.specs.Part.{Part}
use Rattle.garde_report.specs.Report.{Entry}

-- texts as they are passed
abbrev pub texts_of : List (Bor (List ℕ)) → List (List ℕ)
texts_of = map (λ text. text.now)

-- the field whose name the text is
abbrev pub field_named : List (List ℕ) → List ℕ → Option (List ℕ)
field_named [] text = None
field_named (field ∷ fields) text = if bytes_eq text field then Some field else field_named fields text

-- the field at which or under which a path stands
abbrev pub field_of : List (List ℕ) → List Part → Option (List ℕ)
field_of fields [] = None
field_of fields (p ∷ ps) = field_named fields p.text

-- the fault stands at none of the fields
abbrev pub is_other : List (List ℕ) → Entry → Bool
is_other fields e = is_none (field_of fields e.0)

-- the faults at none of the fields, in order
abbrev pub other_faults : List (List ℕ) → List Entry → List Entry
other_faults fields entries = filter (is_other fields) entries
