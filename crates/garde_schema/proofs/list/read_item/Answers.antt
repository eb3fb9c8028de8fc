use Rattle.std.proofs.Common.{rules}
use Rattle.garde_report.specs.Part.{part_of}
use Rattle.garde_schema.proofs.Lists.{item_kept, item_refused}
use Rattle.garde_schema.proofs.list.read_item.Goals as goal

pub returns-in_err-value-clause-answer : goal.returns-in_err-value-clause-answer
returns-in_err-value-clause-answer g c = item_refused (part_of c.args.index) _ c.read_in.result c.from_residual.result c.read_in.ensures.answer (search rules) c.from_residual.ensures.0

pub returns-clause-answer : goal.returns-clause-answer
returns-clause-answer g c = item_kept (part_of c.args.index) _ c.read_in.result c.add.result c.read_in.ensures.answer (search rules)
