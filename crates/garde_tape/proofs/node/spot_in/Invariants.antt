use Rattle.std.proofs.Common.{◌≡◌, ◌-◌, None, option_map, drop, length}
use Rattle.std.specs.Prelude.{IfSome}
use Rattle.garde_tape.specs.Look.{answer_from}
use Rattle.garde_tape.specs.Reading.{json_of, members_of, member_list, HasTree}
use Rattle.garde_tape.specs.Walk.{tokens_at, AreMembersAt}
use Rattle.garde_tape.proofs.node.spot_in.Given as goal

abbrev pub invariant-loop-key : goal.invariant-loop-key
invariant-loop-key l = record {
  left : AreMembersAt l.nodes l.at;
  rest : l.rest ≡ drop l.at l.nodes;
  tree : IfSome l.first (λ i. HasTree (tokens_at l.nodes i));
  answer : answer_from l.name None (member_list (members_of (tokens_at l.nodes l.from)))
      ≡ answer_from l.name (option_map (λ i. json_of (tokens_at l.nodes i)) l.first) (member_list (members_of (tokens_at l.nodes l.at)));
}

abbrev pub decreases-loop-key : goal.decreases-loop-key
decreases-loop-key l = length l.nodes - l.at
