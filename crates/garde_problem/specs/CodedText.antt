-- The messages of rules with their codes and parameters, which are those of `CodeI18n`.
use Rattle.std.specs.Prelude.{ℕ, List}
pub use Rattle.garde_i18n.specs.CodeText.{Code, with_param, datum_code}
use Rattle.garde_i18n.specs.Datum.{Datum}
use Rattle.garde_problem.specs.Coded.{coded_text}

-- a code beside a sentence
abbrev pub beside : Code → List ℕ → List ℕ
beside code detail = coded_text (record { code = code.0; detail = detail; params = code.1 })

-- the message of a datum, with the sentence of a handler
abbrev pub datum_message : (Datum → List ℕ) → Datum → List ℕ
datum_message text d = beside (datum_code d) (text d)
