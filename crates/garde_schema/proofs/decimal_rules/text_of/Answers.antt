use Rattle.std.proofs.Common.{◌≡◌, ◌∙◌, IfOk, subst}
use Rattle.std.specs.Prelude.{codes}
use Rattle.std.specs.Cow.{cow_str_bytes}
use Rattle.garde_i18n.specs.Datum.{named, with_param}
use Rattle.garde_rules.specs.Range.{no_multiple}
use Rattle.garde_schema.proofs.decimal_rules.text_of.Goals as goal

pub returns : goal.returns
unfolding no_multiple
returns g c =
    subst (λ text. IfOk c.named.result (λ s. cow_str_bytes s ≡ g.H.I18n.text c.args.h.now (named (with_param (codes "multiple_of_mismatch") (codes "divisor") c.args.value.now) text)))
    (c.as_str.ensures.value ∙ c.in_ok-english.ensures.ok) c.named.ensures
