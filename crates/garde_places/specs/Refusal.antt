-- Why no faults are listed of a text.
use Rattle.std.specs.Prelude.{◌≡◌, ◌<◌, ℕ, List, length, None, ⊤}
use Rattle.json.specs.Json.{document}
use Rattle.garde_tape.specs.Refusals.{IsFaultIn}
use Rattle.garde_tape.specs.declared.parse_error.ParseError.{ParseError}
use Rattle.garde_tape.specs.declared.parse_error.ParseError.TheVariants.{TooLong, Memory}

-- Each refusal but of memory is one of the text, as `parse` says it: it is too long, or no JSON for this reason at this place.
abbrev pub IsRefusal : List ℕ → ParseError → Type 0
IsRefusal text TooLong = 4294967040 < length text
IsRefusal text Memory = ⊤
IsRefusal text error = (document text ≡ None) × IsFaultIn text error
