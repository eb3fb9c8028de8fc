use Rattle.std.proofs.Common.{rules, ◌∙◌}
use Rattle.garde_schema.proofs.Indexes.{at_first, at_next, at_end}
use Rattle.garde_schema.proofs.in_order.item_at.Goals as goal

pub returns-then-before-eq0 : goal.returns-then-before-eq0
returns-then-before-eq0 c = at_first c.loop-item.before c.loop-item.left _ _ c.in-Some.ensures.steps (search rules) ∙ c.loop-item.invariant

pub loop-item-preserved : goal.loop-item-preserved
loop-item-preserved c = at_next c.loop-item.before c.loop-item.left _ _ c.in-Some.ensures.steps (search rules) ∙ c.loop-item.invariant

pub returns : goal.returns
returns c = at_end c.loop-item.before c.loop-item.left c.in_default.ensures.steps.0 ∙ c.loop-item.invariant
