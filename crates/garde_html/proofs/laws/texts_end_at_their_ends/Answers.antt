use Rattle.garde_html.proofs.Entities.{texts_end_at_their_ends}
use Rattle.garde_html.proofs.laws.texts_end_at_their_ends.Goals as goal

pub returns : goal.returns
returns c = texts_end_at_their_ends
