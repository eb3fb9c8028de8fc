-- The words of a command line.
use Rattle.std.specs.Prelude.{ℕ, List, [], ◌∷◌, Bool, false, ◌||◌, if◌then◌else◌, Option, Some, None, option_map, unwrap_or, string_bytes}
use Rattle.std.specs.Borrow.{Bor}
use Rattle.std.specs.Str.{bytes_eq}
use Rattle.garde_command.specs.declared.word.Word.{Word}

-- the bytes of a word, and of its value
abbrev pub spelled : Word → List ℕ × Option (List ℕ)
spelled word = (string_bytes word.name, option_map string_bytes word.value)

-- the bytes of the value of a word, none where it has none
abbrev pub value_or_empty : Word → List ℕ
value_or_empty word = unwrap_or (option_map string_bytes word.value) []

-- a word is one of these options
abbrev pub is_one_of : List (Bor (List ℕ)) → List ℕ → Bool
is_one_of [] word = false
is_one_of (option ∷ options) word = bytes_eq option.now word || is_one_of options word

-- Texts as words, where each of these options has the text behind it as its value. The first text is the value of the option before, if
-- there is one.
abbrev pub parted : List (Bor (List ℕ)) → Option (List ℕ) → List (List ℕ) → List (List ℕ × Option (List ℕ))
parted options None [] = []
parted options (Some name) [] = (name, None) ∷ []
parted options (Some name) (text ∷ texts) = (name, Some text) ∷ parted options None texts
parted options None (text ∷ texts) =
    if is_one_of options text then parted options (Some text) texts else (text, None) ∷ parted options None texts
