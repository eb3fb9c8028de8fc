use Rattle.std.proofs.Common.{ap, ◌∙◌}
use Rattle.garde_report.specs.Part.{part}
use Rattle.garde_rules.specs.Inner.{key_text}
use Rattle.garde_rules.proofs.inner.BTreeMapInner.component.Goals as goal

pub returns-in-Some : goal.returns-in-Some
returns-in-Some g c = c.component.ensures ∙ ap (λ entry. part g.K.PathComponentKind.kind (key_text g.K.PathComponentKind.text entry)) c.in-Some.ensures
