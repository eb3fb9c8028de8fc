-- What the error of a pattern that was not compiled prints.
use Rattle.std.specs.Prelude.{ℕ, List, codes}
use Rattle.garde_engines.specs.declared.patterns.PatternRefused.{PatternRefused}
use Rattle.garde_engines.specs.declared.patterns.PatternRefused.TheVariants.{Syntax, Other}

-- why a pattern was not compiled
abbrev pub pattern_refused_text : PatternRefused → List ℕ
pattern_refused_text Syntax = codes "the text is not a pattern"
pattern_refused_text Other = codes "the pattern is too big, or out of memory"
