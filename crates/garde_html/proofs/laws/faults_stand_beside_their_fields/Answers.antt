use Rattle.garde_html.proofs.Told.{faults_stand_beside_their_fields}
use Rattle.garde_html.proofs.laws.faults_stand_beside_their_fields.Goals as goal

pub returns : goal.returns
returns c = faults_stand_beside_their_fields
