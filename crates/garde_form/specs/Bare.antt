-- Values that were written without quotes, of a kind that JSON does not have.
use Rattle.std.specs.Prelude.{◌≡◌, ◌++◌, ℕ, List, [], ◌∷◌, codes, Bool, true, false, Option, Some, None, option_map, option_and_then, if◌then◌else◌, bytes_eq}
use Rattle.json.specs.Json.{Json, number, string, array, no_items, item}
use Rattle.json.specs.Find.{as_str, as_number, as_array}
use Rattle.json.specs.Token.{Token}
use Rattle.json.specs.Written.{Written}
use Rattle.garde_tape.specs.Reading.{item_list}

-- the number in front of a bare value: no form takes it, and no number of TOML is written so
abbrev pub mark : List ℕ
mark = codes "-0"

-- the list that a bare value of this text is
abbrev pub bare : List ℕ → Json
bare text = array (item (number mark) (item (string text) no_items))

-- whether a value is a number that is written as the mark
abbrev pub is_mark : Option (List ℕ) → Bool
is_mark None = false
is_mark (Some text) = bytes_eq text mark

-- the text behind the mark
abbrev pub behind_mark : List Json → Option (List ℕ)
behind_mark [] = None
behind_mark (first ∷ []) = None
behind_mark (first ∷ text ∷ []) = if is_mark (as_number first) then as_str text else None
behind_mark (first ∷ text ∷ more ∷ rest) = None

-- the text of a bare value; another value has none
abbrev pub bare_text : Json → Option (List ℕ)
bare_text j = option_and_then behind_mark (option_map item_list (as_array j))

-- the text of a bare value or of a text
abbrev pub or_bare : Option (List ℕ) → Option (List ℕ) → Option (List ℕ)
or_bare (Some text) bare = Some text
or_bare None bare = bare

-- the text that a parser reads: that of a text and, where it takes bare values, that of a bare value
abbrev pub text_in : Bool → Json → Option (List ℕ)
text_in false j = as_str j
text_in true j = or_bare (as_str j) (bare_text j)

-- these tokens were written behind those that stood there
pub record AreWritten (ts : List Token) (old new : Written) : Type 0 where
  pub before : new.before ≡ old.before
  pub tokens : new.tokens ≡ old.tokens ++ ts
