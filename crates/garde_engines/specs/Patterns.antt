-- Which texts are patterns, and what a pattern matches, by the grammar of `regex` and its
-- definition of a match.
use Rattle.std.specs.Prelude.{◌≡◌, ◌<◌, ◌≤◌, ◌⊎◌, ℕ, List, Bool, false, is_some, Option, None, Some, IsSomeAnd, IfSome}
use Rattle.std.specs.Str.{chars}
use Rattle.regex.specs.Patterns.{Re, find_str, default_config}
use Rattle.regex_syntax.specs.Grammar.{read, Names}
use Rattle.regex_syntax.specs.Brackets.{Nested}

-- what the grammar reads in a text, under the default options: a pattern, how deep it is nested,
-- and the names of its groups
abbrev pub reading : List ℕ → Option (Nested Re × Names)
reading source = read default_config (chars source)

-- the grammar reads a pattern in the text, within the limit on nesting
abbrev pub IsPattern : List ℕ → Type 0
IsPattern source =
    IsSomeAnd (reading source) (λ (pattern, _). pattern.depth ≤ default_config.nest_limit)

-- the grammar reads no pattern in the text, or one beyond the limit on nesting
abbrev pub IsNoPattern : List ℕ → Type 0
IsNoPattern source =
    (reading source ≡ None)
    ⊎ IfSome (reading source) (λ (pattern, _). default_config.nest_limit < pattern.depth)

-- whether what was read has a match anywhere in a text
abbrev pub has_match : Option (Nested Re × Names) → List ℕ → Bool
has_match None text = false
has_match (Some (pattern, _)) text = is_some (find_str pattern.value text 0)

-- whether the pattern of the first text has a match anywhere in the second
abbrev pub matches_source : List ℕ → List ℕ → Bool
matches_source source text = has_match (reading source) text
