use Rattle.std.proofs.Common.{sym, ◌∙◌}
use Rattle.garde_described.proofs.Walks.{named_end, named_found, named_next}
use Rattle.garde_described.proofs.reference.first_named.Goals as goal

pub loop-name-preserved : goal.loop-name-preserved
loop-name-preserved c = sym (named_next _ _ _ _ c.in-Some.ensures.steps (sym c.names_schema.ensures ∙ c.if-names_schema.false)) ∙ c.loop-name.invariant

pub returns-then-names_schema : goal.returns-then-names_schema
returns-then-names_schema c = sym (named_found _ _ _ _ c.in-Some.ensures.steps (sym c.names_schema.ensures ∙ c.if-names_schema.true)) ∙ c.loop-name.invariant

pub returns : goal.returns
returns c = sym (named_end _ _ c.in_default.ensures.steps.0) ∙ c.loop-name.invariant
