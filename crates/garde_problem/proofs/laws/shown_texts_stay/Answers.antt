use Rattle.garde_problem.proofs.Shown.{shown_texts_stay}
use Rattle.garde_problem.proofs.laws.shown_texts_stay.Goals as goal

pub returns : goal.returns
returns c = shown_texts_stay
