-- The words of the crates below that the contracts of a caller need.
pub use Rattle.garde_i18n.specs.Datum.{not_ascii, not_alphanumeric, not_set, ip}
pub use Rattle.garde_i18n.specs.declared.reasons.IpKind.TheVariants.{Any}
pub use Rattle.garde_i18n.specs.DefaultText.{default_text}
pub use Rattle.garde_report.specs.Part.{index_part, key_part}
pub use Rattle.garde_report.specs.Report.{Entry, report_text}
pub use Rattle.garde_report.specs.Trace.{Trace, new_trace}
pub use Rattle.garde_rules.specs.{bounds_answer, byte_count, char_count, unit_count, grapheme_count}
pub use Rattle.garde_rules.specs.Holds.{unless}
pub use Rattle.garde_rules.specs.{is_ip_text}
pub use Rattle.garde_rules.specs.Range.{range_fault}
pub use Rattle.garde_rules.specs.Text.{is_ascii_text, is_alphanumeric_text, has_part, has_prefix, has_suffix}
pub use Rattle.garde_rules.specs.{Fault, length_fault, option_answer, matches_source, url_answer}
