use Rattle.std.proofs.Common.{◌∷◌, [], ◌∙◌, sym, ap}
use Rattle.std.proofs.lemmas.Result.{on_ok_weaker}
use Rattle.json.specs.Json.{object}
use Rattle.garde_problem.specs.Coded.{params_in}
use Rattle.garde_problem.specs.Problem.{params_members}
use Rattle.garde_library.specs.Nodes.{an_object, marks, member_marks}
use Rattle.garde_library.proofs.Adding.{as_added, then_are_added, params_count}
use Rattle.garde_library.proofs.detail_nodes.push_params.Goals as goal

pub returns : goal.returns
returns c =
    let ps = params_in c.args.params.text.now in
    let pairs = member_marks (params_members ps) in
    let count = c.in_ok-count.count in
    on_ok_weaker c.push_pairs.result (λ added. as_added (an_object count ∷ pairs) (marks (object (params_members ps))) c.args.walk.now c.push_pairs.new.walk
    (ap (λ n. an_object n ∷ pairs) (c.in_ok-count.ensures ∙ sym (params_count ps)))
    (then_are_added (an_object count ∷ []) pairs c.args.walk.now c.push_object.new.walk c.push_pairs.new.walk c.in_ok-push_object.ensures added)) c.push_pairs.ensures
