-- The fields of a form, and what a visitor sent for them.
use Rattle.std.specs.Prelude.{ℕ, Bool, false, ◌&&◌, ◌||◌, if◌then◌else◌, List, [], ◌∷◌, Option, Some, None, bytes_eq}
use Rattle.std.specs.Borrow.{Bor}
use Rattle.garde_html.specs.declared.form.Field.{Field}

-- a name and a text that was sent for it
abbrev pub Typed : Type 0
Typed = Bor (List ℕ) × Bor (List ℕ)

-- the first field of this name
abbrev pub field_at : List Field → List ℕ → Option Field
field_at [] name = None
field_at (f ∷ fs) name = if bytes_eq name f.name.now then Some f else field_at fs name

-- the first text that was sent for a name, or the empty one
abbrev pub typed_text : List ℕ → List Typed → List ℕ
typed_text name [] = []
typed_text name (t ∷ ts) = if bytes_eq name t.0.now then t.1.now else typed_text name ts

-- this text was sent for the name
abbrev pub is_checked : List ℕ → List ℕ → List Typed → Bool
is_checked name value [] = false
is_checked name value (t ∷ ts) = (bytes_eq name t.0.now && bytes_eq value t.1.now) || is_checked name value ts
