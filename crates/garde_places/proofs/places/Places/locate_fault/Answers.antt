use Rattle.std.proofs.Common.{ap, ◌∙◌, subst}
use Rattle.std.proofs.lemmas.Result.{IfOk-weaker}
use Rattle.json.specs.Json.{document}
use Rattle.garde_problem.specs.Coded.{message_parts}
use Rattle.garde_places.specs.Fault.{IsFaultPlace, speaks_of_name}
use Rattle.garde_places.proofs.Listing.{placed_by}
use Rattle.garde_places.proofs.places.Places.locate_fault.Goals as goal

pub returns-clause-place : goal.returns-clause-place
returns-clause-place c =
    let a = c.self.inside.listed in
    let path = c.args.path.now in
    let message = c.args.error.now in
    let by_name = speaks_of_name (message_parts message).code in
    IfOk-weaker c.place_of_fault.result _ _ (λ place spot j e.
    let read = ap document c.self.view_is ∙ e in
    subst (λ t. IsFaultPlace t path message j place) c.self.view_is (placed_by a.0 j read a.1 c.self.invariant by_name path place (spot j read))) c.place_of_fault.ensures.place
