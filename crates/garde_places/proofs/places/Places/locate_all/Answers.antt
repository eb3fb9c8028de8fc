use Rattle.std.proofs.Common.{ap, ◌∙◌, subst}
use Rattle.std.proofs.lemmas.Result.{IfOk-weaker}
use Rattle.json.specs.Json.{document}
use Rattle.garde_places.specs.Fault.{ArePlaced}
use Rattle.garde_places.proofs.Listing.{all_placed}
use Rattle.garde_places.proofs.places.Places.locate_all.Goals as goal

pub returns-clause-places : goal.returns-clause-places
returns-clause-places c =
    let a = c.self.inside.listed in
    IfOk-weaker c.locate_all.result _ _ (λ faults listed j e.
    let read = ap document c.self.view_is ∙ e in
    subst (λ t. ArePlaced t j faults.items) c.self.view_is (all_placed a.0 j read a.1 c.self.invariant faults.items (listed j read))) c.locate_all.ensures.places
