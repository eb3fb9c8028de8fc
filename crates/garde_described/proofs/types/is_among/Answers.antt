use Rattle.std.proofs.Common.{sym, ◌∙◌}
use Rattle.garde_described.proofs.Lemmas.{any_end, any_found, any_next}
use Rattle.garde_described.proofs.types.is_among.Goals as goal

pub loop-name-preserved : goal.loop-name-preserved
loop-name-preserved c = sym (any_next _ _ _ _ c.in-Some.ensures.steps (sym c.has_type_named.ensures ∙ c.if-has_type_named.false)) ∙ c.loop-name.invariant

pub returns-then-has_type_named : goal.returns-then-has_type_named
returns-then-has_type_named c = sym (any_found _ _ _ _ c.in-Some.ensures.steps (sym c.has_type_named.ensures ∙ c.if-has_type_named.true)) ∙ c.loop-name.invariant

pub returns : goal.returns
returns c = sym (any_end _ _ c.in_default.ensures.steps.0) ∙ c.loop-name.invariant
