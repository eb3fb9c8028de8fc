use Rattle.std.proofs.Common.{rules}
use Rattle.garde_catalog.specs.Field.{trim}
use Rattle.garde_catalog.proofs.field.trim.Goals as goal

pub returns : goal.returns
unfolding trim
returns c = search rules
