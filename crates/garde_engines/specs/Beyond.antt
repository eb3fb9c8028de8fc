-- What is printed of a value that is beyond a bound.
use Rattle.std.specs.Prelude.{ℕ, List, codes}
use Rattle.garde_engines.specs.declared.bounds.OutOfBounds.{OutOfBounds}
use Rattle.garde_engines.specs.declared.bounds.OutOfBounds.TheVariants.{Lower, Upper}

-- which bound a value is beyond
abbrev pub beyond_text : OutOfBounds → List ℕ
beyond_text Lower = codes "below the lower bound"
beyond_text Upper = codes "above the upper bound"
