use Rattle.std.proofs.Common.{ap, ◌∙◌, sym}
use Rattle.garde_engines.specs.PlainUrls.{is_plain_rest}
use Rattle.garde_engines.proofs.PlainUrlLemmas.{plain_is_url}
use Rattle.garde_engines.proofs.urls.plain.is_plain_url.Goals as goal

pub returns-in-Some-clause-url : goal.returns-in-Some-clause-url
returns-in-Some-clause-url c = λ plain. plain_is_url c.args.text.now (ap is_plain_rest (rw c.as_bytes.ensures.value at c.in-Some.ensures) ∙ sym c.has_plain_host.ensures ∙ plain)
