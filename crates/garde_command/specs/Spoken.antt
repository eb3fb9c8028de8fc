-- The language that the words of a command line ask for.
use Rattle.std.specs.Prelude.{◌≡◌, ℕ, List, Bool, true, false, Option, Some, None, option_map, codes, string_bytes}
use Rattle.std.specs.Str.{bytes_eq}
use Rattle.garde_command.specs.Word.{value_or_empty}
use Rattle.garde_command.specs.declared.spoken.Spoken.{Spoken}
use Rattle.garde_command.specs.declared.word.Word.{Word}

abbrev pub is_option : Word → Bool
is_option word = bytes_eq (string_bytes word.name) (codes "--language")

abbrev pub tag_of : Spoken → Option (List ℕ)
tag_of spoken = option_map (λ w. w.now) spoken.tag

-- a word is taken: it is `--language`, for the first time; or it is not, and nothing changes
abbrev pub IsTaken : Bool → Spoken → Word → Spoken → Type 0
IsTaken true old word new = (is_option word ≡ true) × (tag_of old ≡ None) × (tag_of new ≡ Some (value_or_empty word))
IsTaken false old word new = (new ≡ old) × (is_option word ≡ false)
