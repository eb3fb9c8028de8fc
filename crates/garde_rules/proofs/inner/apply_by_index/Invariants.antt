use Rattle.std.proofs.Common.{ℕ, ◌<◌, List, length}
use Rattle.garde_report.specs.Report.{Entry}
use Rattle.garde_report.specs.Trace.{Trace}
use Rattle.garde_rules.specs.Inner.{component_items, Answer, CalledAtEach}
use Rattle.garde_rules.proofs.Calls.{left}
use Rattle.garde_rules.proofs.inner.apply_by_index.Given as goal

-- where the closure is called at the items that are left, it was called at all of them
abbrev pub invariant-loop-index : goal.invariant-loop-index
invariant-loop-index g l = (answer : Answer) (t' : Trace) (r' : List Entry)
    → CalledAtEach (goal.F-post g l.f) (left (g.C.Inner.place l.field) l.index (g.C.Inner.contents l.field)) l.trail l.report answer t' r'
    → CalledAtEach (goal.F-post g l.f) (component_items (g.C.Inner.place l.field) (g.C.Inner.contents l.field)) l.initial.trail l.initial.report answer t' r'
