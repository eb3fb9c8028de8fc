-- How a text has to be laid out, beside what its parser reads.
use Rattle.std.specs.Prelude.{ℕ, ◌==◌, ◌&&◌, ◌||◌, Bool, true, false, List, [], ◌∷◌, codes, nat_le, Option, Some, None, option_map, if◌then◌else◌}
use Rattle.garde_parsed.specs.declared.layout.Layout.{Layout}
use Rattle.garde_parsed.specs.declared.layout.Layout.TheVariants as layouts

-- whether a byte is a decimal digit
abbrev pub is_digit : ℕ → Bool
is_digit c = nat_le 48 c && nat_le c 57

-- Whether a byte has the place of a byte of a shape: a digit that is not greater than a digit, a plus or a minus of a plus, and else the
-- same byte.
abbrev pub fits_byte : ℕ → ℕ → Bool
fits_byte p c = if is_digit p then (nat_le 48 c && nat_le c p) else (c == p || (p == 43 && c == 45))

-- what stands behind a shape, where a text begins with it
unfoldable pub behind : List ℕ → List ℕ → Option (List ℕ)
behind [] text = Some text
behind (p ∷ ps) [] = None
behind (p ∷ ps) (c ∷ cs) = if fits_byte p c then behind ps cs else None

-- what stands behind the digits with which a text begins
unfoldable pub behind_digits : List ℕ → List ℕ
behind_digits [] = []
behind_digits (c ∷ cs) = if is_digit c then behind_digits cs else c ∷ cs

-- what stands behind a point and digits, where a text begins so
abbrev pub behind_fraction : List ℕ → List ℕ
behind_fraction [] = []
behind_fraction (c ∷ cs) = if c == 46 then behind_digits cs else c ∷ cs

-- whether a text ends there
abbrev pub ends : Option (List ℕ) → Bool
ends None = false
ends (Some []) = true
ends (Some (c ∷ cs)) = false

-- whether a text has this shape
abbrev pub has_shape : List ℕ → List ℕ → Bool
has_shape shape text = ends (behind shape text)

-- whether a text is an offset from UTC
abbrev pub is_offset : List ℕ → Bool
is_offset text = has_shape (codes "Z") text || (has_shape (codes "+19:59") text || has_shape (codes "+23:59") text)

-- whether a text has this shape and then perhaps a fraction
abbrev pub ends_in_fraction : Option (List ℕ) → Bool
ends_in_fraction rest = ends (option_map behind_fraction rest)

abbrev pub ends_in_offset : Option (List ℕ) → Bool
ends_in_offset None = false
ends_in_offset (Some rest) = is_offset (behind_fraction rest)

-- whether a text is laid out so
abbrev pub is_laid_out : Layout → List ℕ → Bool
is_laid_out layouts.Any text = true
is_laid_out layouts.Date text = has_shape (codes "9999-19-39") text
is_laid_out layouts.Time text = has_shape (codes "29:59") text || ends_in_fraction (behind (codes "29:59:59") text)
is_laid_out layouts.DateTime text = ends_in_fraction (behind (codes "9999-19-39T29:59:59") text)
is_laid_out layouts.Timestamp text = ends_in_offset (behind (codes "9999-19-39T29:59:59") text)

-- what a parser reads in a text that is laid out so
abbrev pub laid_out : {A : Type 0} → Layout → (List ℕ → Option A) → List ℕ → Option A
laid_out layout parsed text = if is_laid_out layout text then parsed text else None
