-- Texts in which a character that means something in a line is written in another way.
use Rattle.std.specs.Prelude.{ℕ, ◌==◌, if◌then◌else◌, List, codes}
use Rattle.std.specs.Char.{encode_utf8}
use Rattle.std.specs.List.{flat_map}
use Rattle.std.specs.Str.{chars}
use Rattle.garde_places.specs.declared.escape.Escape.{Escape}
use Rattle.garde_places.specs.declared.escape.Escape.TheVariants.{File, Data, Property}

-- in the name of a file a colon, behind which the line stands
abbrev pub file_char : ℕ → List ℕ
file_char c = if c == 58 then codes "\\u{3a}" else encode_utf8 c

-- in the message of a workflow command of GitHub the percent sign and the ends of lines
abbrev pub data_char : ℕ → List ℕ
data_char c = if c == 37 then codes "%25" else (if c == 13 then codes "%0D" else (if c == 10 then codes "%0A" else encode_utf8 c))

-- and in a property of one the colon and the comma besides
abbrev pub property_char : ℕ → List ℕ
property_char c = if c == 58 then codes "%3A" else (if c == 44 then codes "%2C" else data_char c)

abbrev pub written_char : Escape → ℕ → List ℕ
written_char File c = file_char c
written_char Data c = data_char c
written_char Property c = property_char c

-- what is written for a text
abbrev pub written_text : Escape → List ℕ → List ℕ
written_text escape text = flat_map (written_char escape) (chars text)
