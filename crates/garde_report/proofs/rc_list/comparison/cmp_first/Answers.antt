use Rattle.std.proofs.Common.{sym}
use Rattle.garde_report.proofs.Pairs.{then_first}
use Rattle.garde_report.proofs.rc_list.comparison.cmp_first.Goals as goal

pub returns-in-Some-Some : goal.returns-in-Some-Some
returns-in-Some-Some g c =
    rw c.cmp.ensures (then_first g.T.Ord.cmp c.args.list.now c.args.other.now c.in-Some-Some.item.now c.in-Some-Some.like.now
    (sym c.in-Some-Some.ensures) (sym c.in-Some-Some.ensures'))
