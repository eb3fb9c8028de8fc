use Rattle.garde_html.proofs.Held.{nothing_is_held_back}
use Rattle.garde_html.proofs.laws.nothing_is_held_back.Goals as goal

pub returns : goal.returns
returns c = nothing_is_held_back
