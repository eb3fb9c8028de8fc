use Rattle.std.proofs.Common.{ap, sym, ◌∙◌}
use Rattle.std.specs.Prelude.{option_map}
use Rattle.garde.specs.Fields.{is}
use Rattle.garde_decimal.specs.Value.{decimal_of}
use Rattle.garde_described.proofs.Lemmas.{of_none, of_some, told_as}
use Rattle.garde_described.specs.Keywords.{not_a_number}
use Rattle.garde_schema.specs.Whole.{number_visits}
use Rattle.garde_described.proofs.numbers.check_number.Goals as goal

pub returns-in-None : goal.returns-in-None
returns-in-None g c = of_none _ _ (sym c.as_number.ensures ∙ ap (option_map (λ s. s.now)) c.in-None.is)

pub returns-in-None-read : goal.returns-in-None-read
returns-in-None-read g c =
    of_some (λ text. number_visits not_a_number (λ n. is (g.R.Rule.finds c.args.rule n)) (decimal_of text)) _ _ (sym c.as_number.ensures ∙ ap (option_map (λ s. s.now)) c.in-Some.is)
    (told_as (ap (λ o. number_visits not_a_number (λ n. is (g.R.Rule.finds c.args.rule n)) o) (sym c.in-None-read.is ∙ c.read.ensures.value)) c.ask-in-None-read.ensures)
