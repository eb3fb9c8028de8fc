use Rattle.std.proofs.Common.{◌≡◌, ◌∙◌, refl, ap, is_some, rules}
use Rattle.regex.specs.Patterns.{find_str}
use Rattle.regex.specs.Strings.{regex_pattern, regex_source}
use Rattle.garde_engines.specs.Patterns.{matches_source}
use Rattle.garde_engines.proofs.PatternLemmas.{finds_source}
use Rattle.garde_engines.proofs.patterns.Searcher.is_match.Goals as goal

pub returns-then-has_source : goal.returns-then-has_source
returns-then-has_source c =
    let compiled = c.ready.inside.compiled.now in
    let found : c.is_match.result ≡ is_some (find_str (regex_pattern compiled) c.args.text.now 0) =
    rw c.ready.invariant.made at c.is_match.ensures.found in
    let same : regex_source compiled ≡ c.args.self.now = c.if-has_source.ensures refl ∙ c.self.view_is in
    found ∙ finds_source compiled c.ready.invariant.compiled c.args.text.now (λ k. search rules) ∙ ap (λ s. matches_source s c.args.text.now) same
