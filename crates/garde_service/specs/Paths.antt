-- Paths, and the parameters that they have by a pattern.
use Rattle.std.specs.Prelude.{◌≡◌, ◌<◌, ◌==◌, ◌&&◌, Bool, true, false, ℕ, List, [], ◌∷◌, length, Option, Some, None, option_and_then, if◌then◌else◌}
use Rattle.std.specs.List.{slice_split}
use Rattle.std.specs.Str.{bytes_eq}
use Rattle.std.specs.Str.Lossy.{utf8_lossy}
use Rattle.percent_encoding.specs.Percent.{percent_decode}

abbrev pub is_slash : ℕ → Bool
is_slash byte = byte == 47

-- the texts between the slashes
abbrev pub segments : List ℕ → List (List ℕ)
segments path = slice_split is_slash path

-- the first segment of a path, and what stands behind its slash, if there is one
abbrev pub IsCut : List ℕ → List ℕ → Option (List ℕ) → Type 0
IsCut path segment None = segments path ≡ segment ∷ []
IsCut path segment (Some rest) = (segments path ≡ segment ∷ segments rest) × (length rest < length path)

-- the name that stands in front of `}` at the end of a text
abbrev pub closed : List ℕ → Option (List ℕ)
closed [] = None
closed (byte ∷ []) = if byte == 125 then Some [] else None
closed (byte ∷ next ∷ bytes) = option_and_then (λ name. Some (byte ∷ name)) (closed (next ∷ bytes))

-- the name of the parameter that a segment of a pattern is, which stands in it as `{name}`
abbrev pub parameter_in : List ℕ → Option (List ℕ)
parameter_in [] = None
parameter_in (byte ∷ bytes) = if byte == 123 then closed bytes else None

abbrev is_text : List ℕ → Bool
is_text [] = false
is_text (byte ∷ bytes) = true

abbrev fits_as : Option (List ℕ) → List ℕ → List ℕ → Bool
fits_as None wanted segment = bytes_eq wanted segment
fits_as (Some name) wanted segment = is_text segment

-- a segment of a path fits one of a pattern: as a parameter, which is not empty, or since they are the same
abbrev pub segment_fits : List ℕ → List ℕ → Bool
segment_fits wanted segment = fits_as (parameter_in wanted) wanted segment

-- segments fit those of a pattern
abbrev pub fits : List (List ℕ) → List (List ℕ) → Bool
fits [] [] = true
fits [] (segment ∷ rest) = false
fits (wanted ∷ others) [] = false
fits (wanted ∷ others) (segment ∷ rest) = segment_fits wanted segment && fits others rest

-- the text of a segment: escapes are decoded, and what is no UTF-8 becomes U+FFFD
abbrev pub text_of : List ℕ → List ℕ
text_of segment = utf8_lossy (percent_decode segment)

abbrev pub with_parameter : Option (List ℕ) → List ℕ → List (List ℕ × List ℕ) → List (List ℕ × List ℕ)
with_parameter None segment others = others
with_parameter (Some name) segment others = (name, text_of segment) ∷ others

-- the parameters of a path with these segments, by the segments of the pattern
abbrev pub parameters : List (List ℕ) → List (List ℕ) → List (List ℕ × List ℕ)
parameters [] segments = []
parameters (wanted ∷ others) [] = []
parameters (wanted ∷ others) (segment ∷ rest) = with_parameter (parameter_in wanted) segment (parameters others rest)
