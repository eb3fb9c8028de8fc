-- Texts within HTML, written and read.
use Rattle.std.specs.Prelude.{ℕ, Bool, ◌==◌, ◌||◌, if◌then◌else◌, List, [], ◌∷◌, ◌++◌, Option, Some, None, option_map, codes}
use Rattle.std.specs.List.{flat_map}
use Rattle.std.specs.Str.{bytes_eq}

-- what stands in HTML for a byte of a text: one of five entities, or the byte itself
abbrev pub html_byte : ℕ → List ℕ
html_byte b = if b == 38 then codes "&amp;"
    else (if b == 60 then codes "&lt;"
    else (if b == 62 then codes "&gt;"
    else (if b == 34 then codes "&quot;"
    else (if b == 39 then codes "&#39;" else b ∷ []))))

-- a text within HTML
abbrev pub html_text : List ℕ → List ℕ
html_text = flat_map html_byte

-- the bytes that end a text, a tag or the value of an attribute
abbrev pub is_ending : ℕ → Bool
is_ending b = (b == 60) || (b == 62) || (b == 34) || (b == 39)

-- ---- how HTML is read

-- the byte that the entity of this name stands for
abbrev pub entity_byte : List ℕ → Option ℕ
entity_byte name = if bytes_eq name (codes "amp") then Some 38
    else (if bytes_eq name (codes "lt") then Some 60
    else (if bytes_eq name (codes "gt") then Some 62
    else (if bytes_eq name (codes "quot") then Some 34
    else (if bytes_eq name (codes "#39") then Some 39 else None))))

-- a byte before a text, where there are both
abbrev pub with_byte : Option ℕ → Option (List ℕ) → Option (List ℕ)
with_byte None text = None
with_byte (Some b) text = option_map (λ bs. b ∷ bs) text

-- The text that is read. The first argument has what stands behind a `&` so far, up to the `;` that ends its entity. What ends a text
-- or a tag, and a `&` that begins none of the entities, is not read.
abbrev pub read_from : Option (List ℕ) → List ℕ → Option (List ℕ)
read_from None [] = Some []
read_from (Some name) [] = None
read_from None (b ∷ bs) = if b == 38 then read_from (Some []) bs
    else (if is_ending b then None else with_byte (Some b) (read_from None bs))
read_from (Some name) (b ∷ bs) = if b == 59 then with_byte (entity_byte name) (read_from None bs)
    else read_from (Some (name ++ b ∷ [])) bs

-- the text that stands so within HTML
abbrev pub html_read : List ℕ → Option (List ℕ)
html_read html = read_from None html
