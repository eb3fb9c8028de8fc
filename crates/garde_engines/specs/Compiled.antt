-- What is known of a compiled pattern.
use Rattle.std.specs.Prelude.{◌≡◌}
use Rattle.regex.specs.Patterns.{default_config}
use Rattle.regex.specs.Strings.{regex_config, IsReadFromSource}
use Rattle.regex.specs.declared.string.regex.Regex.{Regex}

-- it is what the grammar reads in its text, under the default options
abbrev pub IsCompiled : Regex → Type 0
IsCompiled compiled = (regex_config compiled ≡ default_config) × IsReadFromSource compiled
