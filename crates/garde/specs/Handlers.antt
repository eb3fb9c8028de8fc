-- What the author of a handler cites: the data, what the reasons and the kinds of addresses print, and how texts are joined.
pub use Rattle.std.specs.Cow.{cow_str_bytes}
pub use Rattle.std.specs.Fmt.{decimal}
pub use Rattle.garde_i18n.specs.Datum.{Code, Datum, length_lower, length_greater, range_lower, range_greater, card, pattern, contains, url, prefix, suffix, phone, ip, matches, not_ascii, not_alphanumeric, not_set, named}
pub use Rattle.garde_i18n.specs.Reasons.{url_text, url_name, card_text, card_name, phone_text, phone_name, ip_kind_text}
pub use Rattle.garde_i18n.specs.DefaultText.{default_text}
pub use Rattle.garde_i18n.specs.CodeText.{code_text}
use Rattle.std.specs.Prelude.{ℕ, List, ◌++◌, codes}

-- two texts with a space between them
abbrev pub phrase : List ℕ → List ℕ → List ℕ
phrase one other = one ++ (codes " " ++ other)
