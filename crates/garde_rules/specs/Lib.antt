pub mod Holds
pub mod Inner
pub mod Memory
pub mod Range
pub mod Reasons
pub mod Redaction
pub mod RedactionLaws
pub mod Text
pub use Rattle.garde_engines.specs.Applies.{Fault, rule, own, fault_text, Applies}
pub use Rattle.garde_engines.specs.Bounds.{bounds_answer, length_fault, option_answer}
pub use Rattle.garde_engines.specs.Counts.{byte_count, char_count, unit_count, grapheme_count}
pub use Rattle.garde_engines.specs.IpText.{is_ip_text, is_ipv4_text, is_ipv6_text}
pub use Rattle.garde_engines.specs.Patterns.{matches_source, IsPattern, IsNoPattern}
pub use Rattle.garde_engines.specs.Urls.{reason_of, url_answer, IsUrl, IsNoUrl}
