use Rattle.std.proofs.Common.{sym, ◌∙◌}
use Rattle.garde_form.proofs.Lemmas.{empty_visits}
use Rattle.garde_form.proofs.or_empty.OrEmptyForm.read.Goals as goal

pub returns-then-is_empty-clause-answer : goal.returns-then-is_empty-clause-answer
returns-then-is_empty-clause-answer g c = empty_visits _ _ (sym c.is_empty.ensures ∙ c.if-is_empty.true)
