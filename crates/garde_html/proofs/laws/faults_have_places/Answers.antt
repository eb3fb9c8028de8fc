use Rattle.garde_html.proofs.Places.{faults_have_places}
use Rattle.garde_html.proofs.laws.faults_have_places.Goals as goal

pub returns : goal.returns
returns c = faults_have_places
