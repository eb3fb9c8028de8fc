use Rattle.std.proofs.Common.{refl}
use Rattle.garde_engines.proofs.PatternLemmas.{reads_pattern, refuses_pattern}
use Rattle.garde_engines.proofs.patterns.Regex.new.Goals as goal

pub returns-in-Ok-clause-pattern : goal.returns-in-Ok-clause-pattern
returns-in-Ok-clause-pattern c =
    rw (← c.in-Ok.ensures.source) (reads_pattern _ _ _ (rw c.in-Ok.ensures.config at c.in-Ok.ensures.read))

pub returns-in-Err-Syntax-clause-refused : goal.returns-in-Err-Syntax-clause-refused
returns-in-Err-Syntax-clause-refused c _ =
    let error = c.in-Err-Syntax.field-0-0 in
    let given = rw c.in-Err-Syntax.field-0-is at c.in-Err-Syntax.ensures in
    refuses_pattern _ _ (given.by_grammar error refl) (given.kind)
