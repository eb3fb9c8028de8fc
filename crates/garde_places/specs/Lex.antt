-- Where a token begins: the modes and classes of `json`'s own grammar, with the text left out.
use Rattle.std.specs.Prelude.{◌≡◌, ℕ, Bool, true, false}
use Rattle.json.specs.Lex as json
use Rattle.json.specs.Lex.{Class, quote, backslash, operator, space, other, class, Lexeme, token, comma, colon, operator_lexeme}
use Rattle.garde_places.specs.declared.lex.Mode.{Mode}
use Rattle.garde_places.specs.declared.lex.Mode.TheVariants.{Between, Word, Text, Escape}
use Rattle.garde_places.specs.declared.lex.Kind.{Kind}
use Rattle.garde_places.specs.declared.lex.Kind.TheVariants.{Quote, Backslash, Bracket, Mark, Space, Other}

abbrev pub json_mode : Mode → json.Mode
json_mode Between = json.between
json_mode Word = json.in_word
json_mode Text = json.in_string
json_mode Escape = json.in_escape

abbrev pub is_token : Lexeme → Bool
is_token (token t) = true
is_token comma = false
is_token colon = false

-- what a kind says of its byte
abbrev pub class_of : Kind → ℕ → Type 0
class_of Quote x = class x ≡ quote
class_of Backslash x = class x ≡ backslash
class_of Bracket x = (class x ≡ operator) × (is_token (operator_lexeme x) ≡ true)
class_of Mark x = (class x ≡ operator) × (is_token (operator_lexeme x) ≡ false)
class_of Space x = class x ≡ space
class_of Other x = class x ≡ other

-- whether a token begins at a byte of this class
abbrev pub begins_by : Mode → Class → ℕ → Bool
begins_by Between quote x = true
begins_by Between backslash x = true
begins_by Between operator x = is_token (operator_lexeme x)
begins_by Between space x = false
begins_by Between other x = true
begins_by Word quote x = false
begins_by Word backslash x = false
begins_by Word operator x = is_token (operator_lexeme x)
begins_by Word space x = false
begins_by Word other x = false
begins_by Text c x = false
begins_by Escape c x = false

-- what the byte behind it stands in
abbrev pub mode_by : Mode → Class → Mode
mode_by Between quote = Text
mode_by Between backslash = Word
mode_by Between operator = Between
mode_by Between space = Between
mode_by Between other = Word
mode_by Word quote = Word
mode_by Word backslash = Word
mode_by Word operator = Between
mode_by Word space = Between
mode_by Word other = Word
mode_by Text quote = Between
mode_by Text backslash = Escape
mode_by Text operator = Text
mode_by Text space = Text
mode_by Text other = Text
mode_by Escape c = Text

abbrev pub begins_at : Mode → ℕ → Bool
begins_at m x = begins_by m (class x) x

abbrev pub mode_after : Mode → ℕ → Mode
mode_after m x = mode_by m (class x)
