-- Whether bytes are a text that is read.
use Rattle.std.specs.Prelude.{◌<◌, ℕ, List, length, IsSome, IsUtf8}
use Rattle.json.specs.Json.{document}

-- the bytes are one JSON text
abbrev pub IsJson : List ℕ → Type 0
IsJson bytes = IsUtf8 bytes × IsSome (document bytes)

-- the bytes are too many to be read
abbrev pub IsTooLong : List ℕ → Type 0
IsTooLong bytes = 4294967040 < length bytes
