use Rattle.garde.specs.Fields.{reference_to}
use Rattle.garde_schema.specs.Maps.{is_among}
use Rattle.garde_schema.proofs.Maps.{name_added}
use Rattle.garde_schema.proofs.names.Names.add.Goals as goal

pub returns-clause-names : goal.returns-clause-names
returns-clause-names c = λ other. name_added c.args.name.now other (is_among c.args.self.now.few.items other) _ c.args.self.now.others (c.in_ok-is_new.ensures.updates.0 (reference_to other))
