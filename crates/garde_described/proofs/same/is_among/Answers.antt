use Rattle.std.proofs.Common.{sym, ◌∙◌}
use Rattle.garde_described.proofs.Lemmas.{any_end, any_found, any_next}
use Rattle.garde_described.proofs.same.is_among.Goals as goal

pub loop-value-preserved : goal.loop-value-preserved
loop-value-preserved c = sym (any_next _ _ _ _ c.in-Some.ensures.steps (sym c.is_same.ensures ∙ c.if-is_same.false)) ∙ c.loop-value.invariant

pub returns-then-is_same : goal.returns-then-is_same
returns-then-is_same c = sym (any_found _ _ _ _ c.in-Some.ensures.steps (sym c.is_same.ensures ∙ c.if-is_same.true)) ∙ c.loop-value.invariant

pub returns : goal.returns
returns c = sym (any_end _ _ c.in_default.ensures.steps.0) ∙ c.loop-value.invariant
