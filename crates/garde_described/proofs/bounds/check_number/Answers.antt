use Rattle.std.proofs.Common.{ap, sym, ◌∙◌}
use Rattle.std.specs.Prelude.{is_some, option_map}
use Rattle.garde.specs.Fields.{asks_as, is}
use Rattle.garde_decimal.specs.Value.{decimal_of}
use Rattle.garde_described.proofs.Lemmas.{of_none, of_some, told_as}
use Rattle.garde_described.proofs.bounds.check_number.Goals as goal

pub returns-in-Some : goal.returns-in-Some
returns-in-Some g c =
    of_some (λ text. is (asks_as "not_a_number" "not a number" (is_some (decimal_of text)))) _ _ (sym c.as_number.ensures ∙ ap (option_map (λ s. s.now)) c.in-Some.is)
    (told_as (ap (λ b. is (asks_as "not_a_number" "not a number" b)) (c.is_some-is_read.ensures ∙ ap is_some c.read.ensures.value)) c.ask.ensures)

pub returns-in-None : goal.returns-in-None
returns-in-None g c = of_none _ _ (sym c.as_number.ensures ∙ ap (option_map (λ s. s.now)) c.in-None.is)
