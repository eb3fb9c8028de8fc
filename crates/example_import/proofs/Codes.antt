-- Whether a row in memory has a code.
use Rattle.std.proofs.Common.{◌≡◌, ◌∙◌, sym, ap, refl, ℕ, Bool, true, false, ◌||◌, List, [], ◌∷◌, map, inl, inr}
use Rattle.std.specs.List.{list_any}
use Rattle.std.specs.Str.{bytes_eq}
use Rattle.std.specs.String.{string_bytes}
use Rattle.std.proofs.lemmas.Bool.{true≢false}
use Rattle.std.proofs.lemmas.Slice.Eq.{bytes_eq-Decides}
use Rattle.example_import.specs.Line.{text, line_of}
use Rattle.example_import.specs.Import.{Tells}
use Rattle.example_import.specs.declared.row.Row.{Row}

first : (code : List ℕ) (row : Row) (rows : List Row) (b c : Bool) → bytes_eq (string_bytes row.code) code ≡ b → Tells code (map line_of rows) c → Tells code (map line_of (row ∷ rows)) (b || c)
first code row rows true c is t = inl (ap text ((bytes_eq-Decides (string_bytes row.code) code).0 is))
first code row rows false true is t = inr t
first code row rows false false is t = λ has. elim has [
  | inl same ↦ true≢false (sym ((bytes_eq-Decides (string_bytes row.code) code).1 (let e = same in cc)) ∙ is)
  | inr later ↦ t later
]

pub tells : (code : List ℕ) (rows : List Row) → Tells code (map line_of rows) (list_any (λ row. bytes_eq (string_bytes row.code) code) rows)
tells code [] = λ none. none
tells code (row ∷ rows) = first code row rows _ _ refl (tells code rows)
