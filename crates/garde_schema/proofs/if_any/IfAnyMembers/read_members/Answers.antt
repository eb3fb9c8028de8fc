use Rattle.std.proofs.Common.{sym, ◌∙◌}
use Rattle.garde_schema.proofs.Nulls.{nullable_null}
use Rattle.garde_schema.proofs.if_any.IfAnyMembers.read_members.Goals as goal

pub returns-then-has_none-clause-answer : goal.returns-then-has_none-clause-answer
returns-then-has_none-clause-answer g c = nullable_null _ _ (sym c.has_none.ensures ∙ c.if-has_none.true)
