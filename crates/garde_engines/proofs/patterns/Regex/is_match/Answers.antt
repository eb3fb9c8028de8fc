use Rattle.std.proofs.Common.{◌≡◌, ◌∙◌, is_some, rules}
use Rattle.regex.specs.Patterns.{find_str}
use Rattle.regex.specs.Strings.{regex_pattern}
use Rattle.garde_engines.proofs.PatternLemmas.{finds_source}
use Rattle.garde_engines.proofs.patterns.Regex.is_match.Goals as goal

pub returns : goal.returns
returns c =
    let compiled = c.self.inside.compiled in
    let found : c.is_match.result ≡ is_some (find_str (regex_pattern compiled) c.args.text.now 0) =
    rw c.in_ok-matcher.ensures.pattern at c.is_match.ensures.found in
    rw (← c.self.view_is) (found ∙ finds_source compiled c.self.invariant c.args.text.now (λ k. search rules))
