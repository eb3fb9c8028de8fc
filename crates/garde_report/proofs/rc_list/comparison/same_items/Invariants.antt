use Rattle.std.proofs.Common.{◌≡◌, length}
use Rattle.std.specs.Cmp.Lexicographic.{pointwise}
use Rattle.garde_report.proofs.rc_list.comparison.same_items.Given as goal

-- what is left of the lists is equal if they are
abbrev pub invariant-loop-item : goal.invariant-loop-item
invariant-loop-item g l = record {
  as_long : length l.list ≡ length l.other;
  left : pointwise g.T.PartialEq.eq l.list l.other ≡ pointwise g.T.PartialEq.eq l.initial.list l.initial.other;
}

abbrev pub decreases-loop-item : goal.decreases-loop-item
decreases-loop-item g l = length l.list
