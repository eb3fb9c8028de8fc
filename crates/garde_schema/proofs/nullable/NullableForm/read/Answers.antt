use Rattle.std.proofs.Common.{sym, ◌∙◌}
use Rattle.garde_schema.proofs.Nulls.{nullable_null}
use Rattle.garde_schema.proofs.nullable.NullableForm.read.Goals as goal

pub returns-then-is_null-clause-answer : goal.returns-then-is_null-clause-answer
returns-then-is_null-clause-answer g c = nullable_null _ _ (sym c.is_null.ensures ∙ c.if-is_null.true)
