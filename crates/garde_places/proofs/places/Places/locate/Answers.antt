use Rattle.std.proofs.Common.{false, ap, ◌∙◌, subst}
use Rattle.std.proofs.lemmas.Result.{IfOk-weaker}
use Rattle.json.specs.Json.{document}
use Rattle.garde_places.specs.Places.{IsPlaceOf}
use Rattle.garde_places.proofs.Listing.{placed_by}
use Rattle.garde_places.proofs.places.Places.locate.Goals as goal

pub returns-clause-place : goal.returns-clause-place
returns-clause-place c =
    let a = c.self.inside.listed in
    IfOk-weaker c.place_of.result _ _ (λ place spot j e.
    let read = ap document c.self.view_is ∙ e in
    subst (λ t. IsPlaceOf t c.args.path.now j place) c.self.view_is (placed_by a.0 j read a.1 c.self.invariant false c.args.path.now place (spot j read))) c.place_of.ensures.place
