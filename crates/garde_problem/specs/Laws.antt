-- Laws of what reports print.
use Rattle.std.specs.Prelude.{◌≡◌, ◌==◌, ◌||◌, ◌&&◌, not, ℕ, Bool, false, List, ◌∷◌, length, Some, All}
use Rattle.std.specs.List.{count_by}
use Rattle.std.specs.Str.{IsUtf8, NonePass, chars}
use Rattle.garde_report.specs.Part.{Part}
use Rattle.garde_report.specs.Report.{Entry}
use Rattle.garde_problem.specs.Coded.{Param, Parts, is_mark, coded_text, custom, message_parts}
use Rattle.garde_problem.specs.Pointer.{path_pointer, part_texts, pointer_texts}
use Rattle.garde_problem.specs.Escaped.{is_acting, escaped_text, escaped_report_text}

-- the pointer of a path has the texts of its components
abbrev pub PointersAreRead : Type 0
PointersAreRead = (path : List Part) → pointer_texts (path_pointer path) ≡ Some (part_texts path)

-- paths with the same pointer have the same texts
abbrev pub PointersDiffer : Type 0
PointersDiffer = (p q : List Part) → path_pointer p ≡ path_pointer q → part_texts p ≡ part_texts q

-- how many line feeds a text has
abbrev pub line_feeds : List ℕ → ℕ
line_feeds text = count_by (λ b. b == 10) text

-- an escaped report has as many line feeds as faults
abbrev pub FaultsAreLines : Type 0
FaultsAreLines = (entries : List Entry) → line_feeds (escaped_report_text entries) ≡ length entries

-- no character of an escaped text acts
abbrev pub EscapedTextsAreShown : Type 0
EscapedTextsAreShown = (text : List ℕ) → IsUtf8 text → NonePass is_acting (chars (escaped_text text))

-- the message of a fault is text, and so is each component of its path
abbrev pub IsText : Entry → Type 0
IsText e = All (λ (p : Part). IsUtf8 p.text) e.0 × IsUtf8 e.1

-- a character that acts, other than the line feed
abbrev pub acts_within_a_line : ℕ → Bool
acts_within_a_line c = is_acting c && not (c == 10)

-- no character of an escaped report acts, but for its line feeds
abbrev pub EscapedReportsAreShown : Type 0
EscapedReportsAreShown = (entries : List Entry) → All IsText entries → NonePass acts_within_a_line (chars (escaped_report_text entries))

-- a text in which no character acts, and none is a backslash, is not changed
abbrev pub ShownTextsStay : Type 0
ShownTextsStay = (text : List ℕ) → IsUtf8 text → NonePass (λ c. is_acting c || (c == 92)) (chars text) → escaped_text text ≡ text

-- a text without U+001F
abbrev pub IsUnmarked : List ℕ → Type 0
IsUnmarked text = All (λ b. is_mark b ≡ false) text

-- no text of a message has U+001F
abbrev pub AreUnmarked : Parts → Type 0
AreUnmarked m =
    IsUnmarked m.code × IsUnmarked m.detail × All (λ (p : Param). IsUnmarked p.0 × IsUnmarked p.1) m.params

-- a message with a code is parted into what it was made of
abbrev pub CodedMessagesAreRead : Type 0
CodedMessagesAreRead = (m : Parts) → AreUnmarked m → message_parts (coded_text m) ≡ m

-- a message that does not begin with U+001F has no code of its own, whatever it holds
abbrev pub OtherMessagesAreCustom : Type 0
OtherMessagesAreCustom = (b : ℕ) (bs : List ℕ) → is_mark b ≡ false → message_parts (b ∷ bs) ≡ custom (b ∷ bs)
