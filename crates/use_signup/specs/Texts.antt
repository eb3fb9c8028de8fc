-- What the service says in the languages that it has.
use Rattle.std.specs.Prelude.{ℕ, List, Option, Some, None, slice_get, unwrap_or}
use Rattle.use_signup.specs.declared.texts.Texts.{Texts}

-- what is said in the language of this place, or in the one for where none is asked for
abbrev pub texts_at : List Texts → Texts → Option ℕ → Texts
texts_at texts otherwise None = otherwise
texts_at texts otherwise (Some place) = unwrap_or (slice_get texts place) otherwise
