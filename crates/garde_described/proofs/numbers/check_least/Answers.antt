use Rattle.std.proofs.Common.{ap, sym, ◌∙◌}
use Rattle.std.specs.Prelude.{option_map}
use Rattle.garde.specs.Fields.{is}
use Rattle.garde_described.proofs.Lemmas.{of_none}
use Rattle.garde_described.specs.Keywords.{least_found, on_number}
use Rattle.garde_described.proofs.Whole.{least_met}
use Rattle.garde_described.proofs.numbers.check_least.Goals as goal

pub returns-in-None : goal.returns-in-None
returns-in-None g c = of_none (λ bound. on_number (λ n. is (least_found bound n)) c.args.tree.now) _ (sym c.as_number.ensures ∙ ap (option_map (λ s. s.now)) c.in-None.is)

pub returns-then-ordered : goal.returns-then-ordered
returns-then-ordered g c =
    least_met c.args.value.now c.args.tree.now c.in-Some.bound.now c.whole.result c.whole_of.result
    (sym c.as_number.ensures ∙ ap (option_map (λ s. s.now)) c.in-Some.is) c.whole.ensures c.whole_of.ensures (sym c.ordered.ensures ∙ c.if-ordered.true)
