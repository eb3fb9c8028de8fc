-- What reading bytes returns.
use Rattle.std.specs.Prelude.{◌≡◌, ◌<◌, ℕ, List, length, None, IsSomeAnd, Result, Ok, Err, codes, IsUtf8}
use Rattle.std.specs.Str.Lossy.{utf8_valid_len}
use Rattle.json.specs.Json.{Json, document}
use Rattle.json.specs.Lex.{tokens}
use Rattle.garde_i18n.specs.Datum.{Datum}
use Rattle.garde_report.specs.Report.{report_text}
use Rattle.garde_tape.specs.declared.parse_error.ParseError.{ParseError}
use Rattle.garde_tape.specs.declared.parse_error.ParseError.TheVariants as parse
use Rattle.garde_tape.specs.Nesting.{most_nested}
use Rattle.garde_tape.specs.Place.{place_at, IsPlaceIn}
use Rattle.garde_tape.specs.Refusals.{IsPlaceOfLone, parse_error_text}
use Rattle.garde.specs.Answers.{Answers}
use Rattle.garde.specs.Visits.{Visits}
use Rattle.garde.specs.declared.validate_error.ValidateError.{ValidateError}
use Rattle.garde.specs.declared.validate_error.ValidateError.TheVariants as errors
use Rattle.garde_schema.specs.declared.read_error.ReadError.{ReadError}
use Rattle.garde_schema.specs.declared.read_error.ReadError.TheVariants.{Parse, Report, Memory}

-- the bytes are UTF-8 and a JSON text, and this holds of its value
abbrev pub OfDocument : List ℕ → (Json → Type 0) → Type 0
OfDocument bytes holds = IsUtf8 bytes × IsSomeAnd (document bytes) holds

-- Why the bytes are not read as a JSON text, and at which place: that of the first byte that is not UTF-8, that of the byte that leaves half a
-- surrogate pair alone, or a place in the text. That memory ran out is said otherwise.
abbrev pub NoDocument : List ℕ → ParseError → Type 0
NoDocument bytes (parse.NotUtf8 place) = ¬ IsUtf8 bytes × (place ≡ place_at bytes (utf8_valid_len bytes))
NoDocument bytes (parse.NotJson place) = IsUtf8 bytes × (document bytes ≡ None) × IsPlaceIn bytes place
NoDocument bytes (parse.TooDeep place) = IsUtf8 bytes × (document bytes ≡ None) × (128 < most_nested 0 (tokens bytes)) × IsPlaceIn bytes place
NoDocument bytes (parse.LoneSurrogate place) = IsUtf8 bytes × (document bytes ≡ None) × IsPlaceOfLone bytes place
NoDocument bytes parse.TooLong = IsUtf8 bytes × (4294967040 < length bytes)
NoDocument bytes parse.Memory = ⊥

-- The result. Ok: the bytes are a JSON text, and no tree of faults of its value has a fault. A report: it is that of a tree of faults
-- of its value. `Memory` is the answer of the parser or of the walk: no more is promised of it than that the bytes are UTF-8.
abbrev pub AnswersBytes : (Json → Visits) → (Datum → List ℕ) → List ℕ → Result (Unit {0}) ReadError → Type 0
AnswersBytes visits text bytes (Ok done) = OfDocument bytes (λ j. Answers (visits j) text (Ok done))
AnswersBytes visits text bytes (Err (Parse error)) = NoDocument bytes error
AnswersBytes visits text bytes (Err (Report report)) = OfDocument bytes (λ j. Answers (visits j) text (Err (errors.Report report)))
AnswersBytes visits text bytes (Err Memory) = IsUtf8 bytes

-- the error of the parser, as one of reading
abbrev pub of_parse_error : ParseError → ReadError
of_parse_error (parse.NotUtf8 place) = Parse (parse.NotUtf8 place)
of_parse_error (parse.NotJson place) = Parse (parse.NotJson place)
of_parse_error (parse.TooDeep place) = Parse (parse.TooDeep place)
of_parse_error (parse.LoneSurrogate place) = Parse (parse.LoneSurrogate place)
of_parse_error parse.TooLong = Parse parse.TooLong
of_parse_error parse.Memory = Memory

-- the error of validation, as one of reading
abbrev pub of_validate_error : ValidateError → ReadError
of_validate_error (errors.Report report) = Report report
of_validate_error errors.Memory = Memory

-- what the error prints
abbrev pub read_error_text : ReadError → List ℕ
read_error_text (Parse error) = parse_error_text error
read_error_text (Report report) = report_text report
read_error_text Memory = codes "out of memory"
