-- What the rules of texts ask of a text, whose bytes these are.
use Rattle.std.specs.Prelude.{ℕ, List, [], ◌∷◌, Bool, true, false, ◌||◌, nat_lt, nat_eq}
use Rattle.std.specs.List.{list_all, starts_with, ends_with}
use Rattle.std.specs.Str.{chars}
use Rattle.unicode.specs.Binary.{is_alphabetic}
use Rattle.unicode.specs.GeneralCategory.{general_category}
use Rattle.ucd_category.specs.declared.GeneralCategory.{GeneralCategory}
use Rattle.ucd_category.specs.declared.GeneralCategory.TheVariants.{DecimalNumber, LetterNumber, OtherNumber}

-- every byte is below 128
abbrev pub is_ascii_text : List ℕ → Bool
is_ascii_text bytes = list_all (λ byte. nat_lt byte 128) bytes

-- the category is Nd, Nl or No
abbrev pub is_number_category : GeneralCategory → Bool
is_number_category DecimalNumber = true
is_number_category LetterNumber = true
is_number_category OtherNumber = true
is_number_category _ = false

-- the character is Alphabetic, or its category is Nd, Nl or No
abbrev pub is_alphanumeric_char : ℕ → Bool
is_alphanumeric_char c = is_alphabetic c || is_number_category (general_category c)

-- every character is Alphabetic, or its category is Nd, Nl or No
abbrev pub is_alphanumeric_text : List ℕ → Bool
is_alphanumeric_text bytes = list_all is_alphanumeric_char (chars bytes)

-- the text begins with the pattern
abbrev pub has_prefix : List ℕ → List ℕ → Bool
has_prefix pattern bytes = starts_with nat_eq bytes pattern

-- the text ends with the pattern
abbrev pub has_suffix : List ℕ → List ℕ → Bool
has_suffix pattern bytes = ends_with nat_eq bytes pattern

-- the text begins with the pattern, or what follows its first byte has the pattern as a part
abbrev pub has_part : List ℕ → List ℕ → Bool
has_part pattern [] = has_prefix pattern []
has_part pattern (byte ∷ bytes) = has_prefix pattern (byte ∷ bytes) || has_part pattern bytes
