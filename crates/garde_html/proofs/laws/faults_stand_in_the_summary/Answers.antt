use Rattle.garde_html.proofs.Told.{faults_stand_in_the_summary}
use Rattle.garde_html.proofs.laws.faults_stand_in_the_summary.Goals as goal

pub returns : goal.returns
returns c = faults_stand_in_the_summary
