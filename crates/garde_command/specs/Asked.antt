-- What the words of a command line ask for.
use Rattle.std.specs.Prelude.{◌≡◌, ◌==◌, ℕ, List, [], ◌∷◌, Bool, true, false, not, if◌then◌else◌, Option, Some, None, IsSome, option_map, option_and_then, codes, string_bytes, ◌⊎◌}
use Rattle.std.specs.Str.{all_ascii_digits, bytes_eq}
use Rattle.garde_places.specs.Format.{format_of}
use Rattle.garde_places.specs.declared.format.Format.{Format}
use Rattle.garde_places.specs.declared.format.Format.TheVariants as format
use Rattle.garde_command.specs.declared.asked.Asked.{Asked}
use Rattle.garde_command.specs.declared.asked.TheConstants.{NO_FORMAT, TWO_FORMATS, TWO_INPUTS}
use Rattle.garde_command.specs.declared.word.Word.{Word}

abbrev pub is_empty : List ℕ → Bool
is_empty [] = true
is_empty (b ∷ bs) = false

-- a word names an input: it is `-`, or neither begins with it nor has digits alone
abbrev pub is_input : List ℕ → Bool
is_input [] = false
is_input (b ∷ bs) = if b == 45 then is_empty bs else not (all_ascii_digits (b ∷ bs))

-- the format of a name, where `plain` has no places
abbrev pub named_format : List ℕ → Option (Option Format)
named_format name = if bytes_eq name (codes "plain") then Some None else option_map (λ (f : Format). Some f) (format_of name)

-- the format behind an option
abbrev pub format_behind : Word → Option (Option Format)
format_behind word = option_and_then named_format (option_map string_bytes word.value)

-- the word that names the input
abbrev pub input_word : Asked → Option (List ℕ)
input_word a = option_map (λ w. w.now) a.input

-- the format behind `--format` is taken, which is the first one
abbrev pub TakesFormat : Asked → Word → Asked → Type 0
TakesFormat old word new =
    (old.format ≡ None) × (format_behind word ≡ new.format) × IsSome new.format × (input_word new ≡ input_word old)

-- the name of an input is taken, which is the first one
abbrev pub TakesInput : Asked → Word → Asked → Type 0
TakesInput old word new =
    (is_input (string_bytes word.name) ≡ true) × (input_word old ≡ None) × (input_word new ≡ Some (string_bytes word.name)) × (new.format ≡ old.format)

-- a word is taken: `--format` with its value, or the name of an input
abbrev pub TakesBy : Bool → Asked → Word → Asked → Type 0
TakesBy true old word new = TakesFormat old word new
TakesBy false old word new = TakesInput old word new

abbrev pub is_format_option : Word → Bool
is_format_option word = bytes_eq (string_bytes word.name) (codes "--format")

-- a word is taken; or it is not, and nothing changes
abbrev pub IsTaken : Bool → Asked → Word → Asked → Type 0
IsTaken true old word new = TakesBy (is_format_option word) old word new
IsTaken false old word new = (new ≡ old) × (is_format_option word ≡ false) × (is_input (string_bytes word.name) ≡ false)

-- a word cannot be followed: it is a second format, names no format, or is a second input
abbrev pub IsWrongBy : Bool → Asked → Word → Type 0
IsWrongBy true old word = IsSome old.format ⊎ (format_behind word ≡ None)
IsWrongBy false old word = (is_input (string_bytes word.name) ≡ true) × IsSome (input_word old)

abbrev pub IsWrong : Asked → Word → Type 0
IsWrong old word = IsWrongBy (is_format_option word) old word

-- why `--format` cannot be followed, by the format before
abbrev pub why_no_format : Option (Option Format) → List ℕ
why_no_format None = NO_FORMAT.now
why_no_format (Some f) = TWO_FORMATS.now

-- why a word cannot be followed
abbrev pub why_wrong : Asked → Word → List ℕ
why_wrong old word = if is_format_option word then why_no_format old.format else TWO_INPUTS.now

-- the file of a word, none for standard input
abbrev pub file_asked : Option (List ℕ) → Option (List ℕ)
file_asked None = None
file_asked (Some word) = if bytes_eq word (codes "-") then None else Some word

-- the name under which faults are printed
abbrev pub name_or_stdin : Option (List ℕ) → List ℕ
name_or_stdin None = codes "<stdin>"
name_or_stdin (Some name) = name

abbrev pub name_asked : Option (List ℕ) → List ℕ
name_asked word = name_or_stdin (file_asked word)

-- the format: the one that is named, or `short` where an input is
abbrev pub format_or_short : Option (Option Format) → Option (List ℕ) → Option Format
format_or_short (Some f) word = f
format_or_short None None = None
format_or_short None (Some word) = Some format.Short

abbrev pub format_asked : Asked → Option Format
format_asked a = format_or_short a.format (input_word a)
