use Rattle.std.proofs.Common.{◌≡◌, map, get_or, ap, ◌∙◌, subst}
use Rattle.json.specs.Json.{document}
use Rattle.json.specs.Tape.{node_token}
use Rattle.garde_report.specs.Part.{item_part}
use Rattle.garde_tape.specs.Place.{text_start}
use Rattle.garde_places.specs.Steps.{IsTokenBy}
use Rattle.garde_places.specs.Listed.{IsSpotBy}
use Rattle.garde_places.proofs.Listing.{spot_by}
use Rattle.garde_places.proofs.Locating.{nodes_spell}
use Rattle.garde_places.proofs.listed.ListedPlaces.place_of.Goals as goal

pub returns-clause-place : goal.returns-clause-place
returns-clause-place c j e =
    let a = c.self.inside in
    let by_name = c.args.by_name in
    let path = c.args.path.now in
    let n = c.find_token-token.result in
    let place = c.place_at_token.result in
    let read = ap (λ v. document v.0) c.self.view_is ∙ e in
    let spelled = nodes_spell a.json.now j read (map node_token a.nodes.now) c.self.invariant.read c.self.invariant.value in
    let way : map item_part c.as_slice.result.now ≡ path = ap (map item_part) c.as_slice.ensures ∙ c.in_ok-way.ensures.items in
    let found = subst (λ p. IsTokenBy by_name p j n) way (c.find_token-token.ensures.value j spelled) in
    let same = c.place_at_token.ensures ∙ ap (λ ps. get_or ps n text_start) c.deref.ensures.value in
    subst (λ v. IsSpotBy by_name v.1 path j place) c.self.view_is (spot_by by_name a.places.items path j n place found same)
