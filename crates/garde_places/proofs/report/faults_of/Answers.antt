use Rattle.std.proofs.lemmas.Result.{IfOk-weaker}
use Rattle.garde_places.proofs.Listing.{all_placed}
use Rattle.garde_places.proofs.report.faults_of.Goals as goal

pub returns-in-Ok-clause-places : goal.returns-in-Ok-clause-places
returns-in-Ok-clause-places c = IfOk-weaker c.list_all.result _ _ (λ faults listed j e. all_placed c.args.text.now j e c.in-Ok.places.items c.in-Ok.ensures faults.items (listed j e)) c.list_all.ensures.places
