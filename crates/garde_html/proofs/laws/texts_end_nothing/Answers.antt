use Rattle.garde_html.proofs.Entities.{texts_end_nothing}
use Rattle.garde_html.proofs.laws.texts_end_nothing.Goals as goal

pub returns : goal.returns
returns c = texts_end_nothing
