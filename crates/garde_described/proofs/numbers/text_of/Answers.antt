use Rattle.std.proofs.Common.{IfOk, codes, subst, ◌∙◌, ◌≡◌}
use Rattle.std.specs.Cow.{cow_str_bytes}
use Rattle.garde_i18n.specs.Datum.{named, with_param}
use Rattle.garde_described.proofs.numbers.text_of.Goals as goal

pub returns : goal.returns
returns g c =
    subst (λ text. IfOk c.named.result (λ s. cow_str_bytes s ≡ g.H.I18n.text c.args.h.now (named (with_param c.args.name.now (codes "bound") c.args.bound.now) text)))
    (c.as_str.ensures.value ∙ c.in_ok-english.ensures.ok) c.named.ensures
