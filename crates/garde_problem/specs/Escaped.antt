-- Texts in which a fault cannot forge a line, steer a terminal or turn the order of reading.
use Rattle.std.specs.Prelude.{ℕ, Bool, false, ◌||◌, ◌==◌, if◌then◌else◌, List, [], ◌∷◌, ◌++◌, map}
use Rattle.std.specs.Char.{encode_utf8, is_control}
use Rattle.std.specs.Fmt.{digits}
use Rattle.std.specs.Int.{is_in_range}
use Rattle.std.specs.List.{flat_map}
use Rattle.std.specs.Str.{chars}
use Rattle.garde_report.specs.Part.{Part, part}
use Rattle.garde_report.specs.Path.{path_text}
use Rattle.garde_report.specs.Report.{Entry, report_text}

-- a character that is not shown but acts: a control (U+0000 to U+001F, U+007F to U+009F), a separator of lines or paragraphs
-- (U+2028, U+2029), or one with the Unicode property Bidi_Control
abbrev pub is_acting : ℕ → Bool
is_acting c = is_control c || (c == 0x061C) || is_in_range 0x200E 0x200F c || is_in_range 0x2028 0x202E c || is_in_range 0x2066 0x2069 c

-- the letter behind the backslash, as in `\n`, or 0 for a character without one
abbrev pub escape_letter : ℕ → ℕ
escape_letter c = if c == 92 then 92 else (if c == 10 then 110 else (if c == 13 then 114 else (if c == 9 then 116 else 0)))

-- what is printed for a character: `\\`, `\n`, `\r`, `\t`, its number in hexadecimal as in `\u{1b}`, or itself
abbrev pub escaped_char : ℕ → List ℕ
escaped_char c = if escape_letter c == 0
    then (if is_acting c then 92 ∷ 117 ∷ 123 ∷ (digits 16 false c ++ 125 ∷ []) else encode_utf8 c)
    else 92 ∷ escape_letter c ∷ []

-- what is printed for a text
abbrev pub escaped_text : List ℕ → List ℕ
escaped_text text = flat_map escaped_char (chars text)

-- a component with its text escaped
abbrev pub escaped_part : Part → Part
escaped_part p = part p.kind (escaped_text p.text)

-- a path with its texts escaped
abbrev pub escaped_path : List Part → List Part
escaped_path = map escaped_part

-- a fault with its path and its message escaped
abbrev pub escaped_entry : Entry → Entry
escaped_entry e = (escaped_path e.0, escaped_text e.1)

-- what the path prints whose texts are escaped
abbrev pub escaped_path_text : List Part → List ℕ
escaped_path_text path = path_text (escaped_path path)

-- what the report prints whose texts are escaped
abbrev pub escaped_report_text : List Entry → List ℕ
escaped_report_text entries = report_text (map escaped_entry entries)
