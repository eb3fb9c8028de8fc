use Rattle.std.proofs.Common.{◌≡◌, ◌≤◌, length, take}
use Rattle.garde_report.proofs.rc_list.front.Front.first.Given as goal

-- the front still has the items, and they are the same
abbrev pub invariant-loop-front : goal.invariant-loop-front
invariant-loop-front g l = record {
  long : l.count ≤ length l.front;
  same : take l.count l.front ≡ take l.count l.self;
}

abbrev pub decreases-loop-front : goal.decreases-loop-front
decreases-loop-front g l = length l.front
