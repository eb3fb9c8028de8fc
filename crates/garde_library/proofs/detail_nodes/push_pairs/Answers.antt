use Rattle.std.proofs.Common.{◌∷◌, [], ap}
use Rattle.garde_problem.specs.Coded.{params_in}
use Rattle.garde_problem.specs.Problem.{params_members}
use Rattle.garde_library.specs.Nodes.{a_text, member_marks}
use Rattle.garde_library.proofs.Adding.{added_more}
use Rattle.garde_library.proofs.detail_nodes.push_pairs.Goals as goal

pub loop-name-preserved : goal.loop-name-preserved
loop-name-preserved c =
    added_more (a_text c.in-Some.name.now ∷ a_text c.in-Some.value.now ∷ []) (member_marks (params_members (params_in c.loop-name.left.text.now))) (member_marks (params_members (params_in c.next.new.self.text.now)))
    (member_marks (params_members (params_in c.args.params.text.now))) c.args.walk.now c.loop-name.walk c.push_member.new.walk
    (ap (λ ps. member_marks (params_members ps)) c.in-Some.ensures.0) c.loop-name.invariant c.in_ok-push_member.ensures
