use Rattle.std.proofs.Common.{arith}
use Rattle.std.proofs.lemmas.Grind.{common_steps}
use Rattle.garde_report.proofs.Pairs.{pointwise_push}
use Rattle.garde_report.proofs.rc_list.comparison.same_items.Goals as goal

pub loop-item-preserved : goal.loop-item-preserved
loop-item-preserved g c =
    let both = c.in-Some.ensures in
    let last = pointwise_push g.T.PartialEq.eq c.pop_both.new.list c.pop_both.new.other c.in-Some.item.now c.in-Some.like.now in
    record {
      as_long = grind (arith, common_steps, both.0, both.1);
      left = grind (arith, both.0, both.1, last);
    }
