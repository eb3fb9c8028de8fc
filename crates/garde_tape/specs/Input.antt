-- An input, and the text that is read of it.
use Rattle.std.specs.Prelude.{ℕ, List, [], ◌∷◌, Bool, ◌==◌, ◌&&◌, if◌then◌else◌}

-- whether three bytes are a byte order mark: U+FEFF in UTF-8
abbrev pub is_mark : ℕ → ℕ → ℕ → Bool
is_mark a b c = (a == 239) && (b == 187) && (c == 191)

-- the bytes behind a byte order mark, where the input begins with one
abbrev pub without_mark : List ℕ → List ℕ
without_mark [] = []
without_mark (a ∷ []) = a ∷ []
without_mark (a ∷ b ∷ []) = a ∷ b ∷ []
without_mark (a ∷ b ∷ c ∷ rest) = if is_mark a b c then rest else a ∷ b ∷ c ∷ rest
