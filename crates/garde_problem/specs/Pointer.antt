-- JSON Pointers (RFC 6901), written and read.
use Rattle.std.specs.Prelude.{ℕ, Bool, true, false, ◌==◌, if◌then◌else◌, List, [], ◌∷◌, map, Option, Some, None, option_map}
use Rattle.std.specs.List.{flat_map}
use Rattle.garde_report.specs.Part.{Part}

-- what stands in a pointer for a byte of a text: `~0` for `~`, `~1` for `/`, and the byte itself for any other
abbrev pub token_byte : ℕ → List ℕ
token_byte b = if b == 126 then 126 ∷ 48 ∷ [] else (if b == 47 then 126 ∷ 49 ∷ [] else b ∷ [])

-- the token of a text
abbrev pub token : List ℕ → List ℕ
token = flat_map token_byte

-- the pointer with these texts: before each token stands `/`
abbrev pub pointer : List (List ℕ) → List ℕ
pointer = flat_map (λ (text : List ℕ). 47 ∷ token text)

-- the texts of the components
abbrev pub part_texts : List Part → List (List ℕ)
part_texts = map (λ (p : Part). p.text)

-- the pointer of a path
abbrev pub path_pointer : List Part → List ℕ
path_pointer path = pointer (part_texts path)

-- ---- how a pointer is read

-- the first text begins with this byte
abbrev pub with_byte : ℕ → List (List ℕ) → List (List ℕ)
with_byte b [] = []
with_byte b (text ∷ texts) = (b ∷ text) ∷ texts

-- what the rest of a token stands for, and the texts of the tokens behind it. The first argument says whether a `~` stands
-- before, after which comes `0` or `1`.
abbrev pub texts_from : Bool → List ℕ → Option (List (List ℕ))
texts_from false [] = Some ([] ∷ [])
texts_from true [] = None
texts_from false (b ∷ bs) = if b == 47 then option_map (λ texts. [] ∷ texts) (texts_from false bs)
    else (if b == 126 then texts_from true bs else option_map (with_byte b) (texts_from false bs))
texts_from true (b ∷ bs) = if b == 48 then option_map (with_byte 126) (texts_from false bs)
    else (if b == 49 then option_map (with_byte 47) (texts_from false bs) else None)

-- the texts that a pointer has; nothing of what is no pointer
abbrev pub pointer_texts : List ℕ → Option (List (List ℕ))
pointer_texts [] = Some []
pointer_texts (b ∷ bs) = if b == 47 then texts_from false bs else None
