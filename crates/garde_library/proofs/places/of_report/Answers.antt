use Rattle.std.proofs.Common.{rules, ◌≡◌, Some, ap, ◌∙◌, subst}
use Rattle.std.specs.Prelude.{map}
use Rattle.std.proofs.lemmas.Result.{IfOk-weaker}
use Rattle.json.specs.Json.{Json, document}
use Rattle.garde_tape.specs.Input.{without_mark}
use Rattle.garde_places.specs.Fault.{ArePlaced}
use Rattle.garde_library.specs.Places.{place_of}
use Rattle.garde_library.proofs.Placed.{are_places}
use Rattle.garde_library.proofs.places.of_report.Goals as goal

pub returns-in-Ok-faults_of : goal.returns-in-Ok-faults_of
returns-in-Ok-faults_of c =
    let faults = c.in-Ok-faults_of.faults.items in
    let same : c.in-Ok.text.now ≡ without_mark c.args.bytes.now = search rules in
    let all : (j : Json) → document (without_mark c.args.bytes.now) ≡ Some j → ArePlaced (without_mark c.args.bytes.now) j faults =
    subst (λ t. (j : Json) → document t ≡ Some j → ArePlaced t j faults) same c.in-Ok-faults_of.ensures.places in
    let told : map place_of faults ≡ map place_of c.deref.result.now = ap (map place_of) (search rules) in
    IfOk-weaker c.places_of.result _ _ (λ places is. are_places c.args.bytes.now c.args.report.now places.items faults c.in-Ok-faults_of.ensures.faults (told ∙ is) all) c.places_of.ensures
