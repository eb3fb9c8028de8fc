-- Whether `HEAD ` is among bytes.
use Rattle.std.specs.Prelude.{◌≡◌, ◌==◌, ℕ, List, [], ◌∷◌, ◌++◌, codes, if◌then◌else◌}
use Rattle.garde_service.specs.declared.heads.Seen.{Seen}
use Rattle.garde_service.specs.declared.heads.Seen.TheVariants.{Nothing, H, He, Hea, Head, Found}

-- after this byte, which goes on with nothing that was seen
abbrev pub begun : ℕ → Seen
begun byte = if byte == 72 then H else Nothing

-- how much of `HEAD ` the bytes end with after one more byte, or that it was among them
abbrev pub next : Seen → ℕ → Seen
next Nothing byte = begun byte
next H byte = if byte == 69 then He else begun byte
next He byte = if byte == 65 then Hea else begun byte
next Hea byte = if byte == 68 then Head else begun byte
next Head byte = if byte == 32 then Found else begun byte
next Found byte = Found

-- the same after more bytes
abbrev pub looked : Seen → List ℕ → Seen
looked seen [] = seen
looked seen (byte ∷ bytes) = looked (next seen byte) bytes

-- `HEAD ` is among the bytes
abbrev pub HasHead : List ℕ → Type 0
HasHead bytes = (front : List ℕ) × (more : List ℕ) × (bytes ≡ front ++ (codes "HEAD " ++ more))

-- the bytes begin a request by `HEAD`
abbrev pub IsByHead : List ℕ → Type 0
IsByHead bytes = (more : List ℕ) × (bytes ≡ codes "HEAD " ++ more)
