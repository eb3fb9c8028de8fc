-- What reading bytes returns, with at most so many faults.
use Rattle.std.specs.Prelude.{⊤, ℕ, List, ◌++◌, Result, Ok, Err, codes, IsUtf8}
use Rattle.json.specs.Json.{Json}
use Rattle.garde_i18n.specs.Datum.{Datum}
use Rattle.garde_report.specs.Report.{report_text}
use Rattle.garde_tape.specs.declared.parse_error.ParseError.{ParseError}
use Rattle.garde_tape.specs.declared.parse_error.ParseError.TheVariants as parse
use Rattle.garde_tape.specs.Refusals.{parse_error_text}
use Rattle.garde.specs.Answers.{AnswersFirst}
use Rattle.garde.specs.Visits.{Visits}
use Rattle.garde.specs.declared.first_error.FirstError.{FirstError}
use Rattle.garde.specs.declared.first_error.FirstError.TheVariants as firsts
use Rattle.garde_schema.specs.Bytes.{OfDocument, NoDocument}
use Rattle.garde_schema.specs.declared.first_read_error.FirstReadError.{FirstReadError}
use Rattle.garde_schema.specs.declared.first_read_error.FirstReadError.TheVariants.{Parse, All, First, Memory}
use Rattle.garde_schema.specs.declared.read_error.ReadError.{ReadError}
use Rattle.garde_schema.specs.declared.read_error.ReadError.TheVariants as wholes

-- The result. Where the bytes are a JSON text it is that of at most so many faults of its value. `Memory` is the answer of the
-- parser or of the walk: no more is promised of it than that the bytes are UTF-8.
abbrev pub AnswersFirstBytes : (Json → Visits) → (Datum → List ℕ) → ℕ → List ℕ → Result (Unit {0}) FirstReadError → Type 0
AnswersFirstBytes visits text most bytes (Ok done) = OfDocument bytes (λ j. AnswersFirst (visits j) text most (Ok done))
AnswersFirstBytes visits text most bytes (Err (Parse error)) = NoDocument bytes error
AnswersFirstBytes visits text most bytes (Err (All report)) = OfDocument bytes (λ j. AnswersFirst (visits j) text most (Err (firsts.All report)))
AnswersFirstBytes visits text most bytes (Err (First report)) = OfDocument bytes (λ j. AnswersFirst (visits j) text most (Err (firsts.First report)))
AnswersFirstBytes visits text most bytes (Err Memory) = IsUtf8 bytes

-- the error of the parser, as one of reading
abbrev pub first_of_parse_error : ParseError → FirstReadError
first_of_parse_error (parse.NotUtf8 place) = Parse (parse.NotUtf8 place)
first_of_parse_error (parse.NotJson place) = Parse (parse.NotJson place)
first_of_parse_error (parse.TooDeep place) = Parse (parse.TooDeep place)
first_of_parse_error (parse.LoneSurrogate place) = Parse (parse.LoneSurrogate place)
first_of_parse_error parse.TooLong = Parse parse.TooLong
first_of_parse_error parse.Memory = Memory

-- the error of validation, as one of reading
abbrev pub first_of_first_error : FirstError → FirstReadError
first_of_first_error (firsts.All report) = All report
first_of_first_error (firsts.First report) = First report
first_of_first_error firsts.Memory = Memory

-- what the error prints
abbrev pub first_read_error_text : FirstReadError → List ℕ
first_read_error_text (Parse error) = parse_error_text error
first_read_error_text (All report) = report_text report
first_read_error_text (First report) = report_text report ++ codes "there are more\n"
first_read_error_text Memory = codes "out of memory"

-- there were more faults than were asked for
abbrev pub IsFirstRead : Result (Unit {0}) FirstReadError → Type 0
IsFirstRead (Ok done) = ⊥
IsFirstRead (Err (Parse error)) = ⊥
IsFirstRead (Err (All report)) = ⊥
IsFirstRead (Err (First report)) = ⊤
IsFirstRead (Err Memory) = ⊥

-- the error of a read that asks for every fault
abbrev pub whole_read_error : FirstReadError → ReadError
whole_read_error (Parse error) = wholes.Parse error
whole_read_error (All report) = wholes.Report report
whole_read_error (First report) = wholes.Report report
whole_read_error Memory = wholes.Memory
