-- What a TOML text is turned into, and why it is not.
use Rattle.std.specs.Prelude.{◌≡◌, ◌<◌, ◌↔◌, ℕ, List, Option, Some, None, IfSome, IsNone, ⊤}
use Rattle.json.specs.Json.{Json, document, max_depth}
use Rattle.toml.specs.Data.{Members, table}
use Rattle.toml.specs.Errors.{IsMemory, IsWithin, span_start}
use Rattle.toml.specs.Parse.{parse_document}
use Rattle.toml.specs.declared.de.error.Error.{Error}
use Rattle.garde_tape.specs.Place.{place_at}
use Rattle.garde_tape.specs.declared.place.Place.{Place}
use Rattle.garde_toml.specs.Nesting.{nesting}
use Rattle.garde_toml.specs.Spelled.{Spells}
use Rattle.garde_toml.specs.declared.error.TomlError.{TomlError}
use Rattle.garde_toml.specs.declared.error.TomlError.TheVariants.{Parse, TooDeep, Memory}

-- the JSON text has a value that spells the table of the TOML text
abbrev pub IsInJson : List ℕ → List ℕ → Type 0
IsInJson text out = (t : Members) × (j : Json) × (parse_document text ≡ Some t) × (document out ≡ Some j) × Spells (table t) j

-- why the text is not turned into JSON: that memory ran out says nothing of it
abbrev pub IsReason : List ℕ → TomlError → Type 0
IsReason text (Parse error) = (parse_document text ≡ None) × ¬ IsMemory error × IsWithin text error
IsReason text TooDeep = (t : Members) × (parse_document text ≡ Some t) × (max_depth < nesting (table t))
IsReason text Memory = ⊤

-- the error of the parser
abbrev pub IsToldAs : Error → TomlError → Type 0
IsToldAs error told = (IsMemory error → told ≡ Memory) × (¬ IsMemory error → told ≡ Parse error)

-- where a text stops being TOML: of an error of the parser that is no want of memory, at the first byte of what it does not expect
abbrev pub IsStop : List ℕ → TomlError → Option Place → Type 0
IsStop text (Parse error) stop = (IsNone stop ↔ IsMemory error) × IfSome stop (λ place. place ≡ place_at text (span_start error))
IsStop text TooDeep stop = stop ≡ None
IsStop text Memory stop = stop ≡ None
