use Rattle.std.proofs.Common.{ap, sym}
use Rattle.garde_catalog.specs.Catalog.{only_text}
use Rattle.garde_catalog.proofs.Made.{no_word}
use Rattle.garde_catalog.proofs.lines.only_text.Goals as goal

pub returns-in-Ok : goal.returns-in-Ok
returns-in-Ok c = sym (ap only_text c.in-Ok.ensures.ok)

pub returns-in-Err : goal.returns-in-Err
returns-in-Err c = sym (no_word _ _ c.in-Err.ensures.err)
