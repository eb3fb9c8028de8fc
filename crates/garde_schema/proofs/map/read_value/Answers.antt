use Rattle.std.proofs.Common.{rules}
use Rattle.garde_report.specs.Part.{key_part}
use Rattle.garde_schema.proofs.Maps.{entry_kept, entry_refused}
use Rattle.garde_schema.proofs.map.read_value.Goals as goal

pub returns-in_err-value-clause-answer : goal.returns-in_err-value-clause-answer
returns-in_err-value-clause-answer g c = entry_refused (key_part c.args.name.now) _ c.read_in.result c.from_residual.result c.key.ensures c.read_in.ensures.answer (search rules) c.from_residual.ensures.0

pub returns-clause-answer : goal.returns-clause-answer
returns-clause-answer g c = entry_kept (key_part c.args.name.now) _ c.read_in.result c.add.result c.key.ensures c.read_in.ensures.answer (search rules)
