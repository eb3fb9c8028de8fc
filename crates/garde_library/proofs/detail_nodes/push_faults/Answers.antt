use Rattle.std.proofs.Common.{◌∷◌, sym, ap, ◌∙◌}
use Rattle.std.proofs.lemmas.Result.{on_ok_weaker}
use Rattle.json.specs.Json.{array}
use Rattle.garde_problem.specs.Problem.{faults_json}
use Rattle.garde_library.specs.Nodes.{a_list, item_marks, marks}
use Rattle.garde_library.proofs.Adding.{as_added, then_are_added, faults_count}
use Rattle.garde_library.proofs.detail_nodes.push_faults.Goals as goal

pub returns : goal.returns
returns c =
    let es = c.args.report.now in
    on_ok_weaker c.push_each.result (λ each. as_added _ (marks (array (faults_json es))) c.args.walk.now c.push_each.new.walk
    (ap (λ n. a_list n ∷ item_marks (faults_json es)) (c.len.ensures ∙ sym (faults_count es)))
    (then_are_added _ (item_marks (faults_json es)) c.args.walk.now c.push_list.new.walk c.push_each.new.walk c.in_ok-push_list.ensures each)) c.push_each.ensures
