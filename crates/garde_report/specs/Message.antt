-- What a message says.
use Rattle.std.specs.Prelude.{⊤, ℕ, List, string_bytes}
use Rattle.garde_report.specs.declared.error.message.Message.{Message}
use Rattle.garde_report.specs.declared.error.message.Message.TheVariants.{Short, Long}

-- the bytes of a message, wherever they lie
abbrev pub message_bytes : Message → List ℕ
message_bytes (Short text) = text
message_bytes (Long text) = string_bytes text

-- the message lies in the value itself
abbrev pub IsInline : Message → Type 0
IsInline (Short text) = ⊤
IsInline (Long text) = ⊥
