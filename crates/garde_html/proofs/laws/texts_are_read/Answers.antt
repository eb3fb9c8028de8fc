use Rattle.garde_html.proofs.Entities.{texts_are_read}
use Rattle.garde_html.proofs.laws.texts_are_read.Goals as goal

pub returns : goal.returns
returns c = texts_are_read
