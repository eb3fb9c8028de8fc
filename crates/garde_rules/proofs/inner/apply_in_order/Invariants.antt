use Rattle.std.proofs.Common.{List}
use Rattle.garde_report.specs.Report.{Entry}
use Rattle.garde_report.specs.Trace.{Trace}
use Rattle.garde_rules.specs.Inner.{Answer, keyed_items, CalledAtEach, CallableAtEach}
use Rattle.garde_rules.proofs.inner.apply_in_order.Given as goal

-- where the closure is called at the entries that are left, which it may be, it was called at all of them
abbrev pub invariant-loop-key : goal.invariant-loop-key
invariant-loop-key g l = record {
  can : CallableAtEach (goal.F-pre g l.f) (keyed_items g.K.PathComponentKind.kind g.K.PathComponentKind.text l.key-iterator);
  rest : (answer : Answer) (t' : Trace) (r' : List Entry)
      → CalledAtEach (goal.F-post g l.f) (keyed_items g.K.PathComponentKind.kind g.K.PathComponentKind.text l.key-iterator) l.trail l.report answer t' r'
      → CalledAtEach (goal.F-post g l.f) (keyed_items g.K.PathComponentKind.kind g.K.PathComponentKind.text l.initial.key-iterator) l.initial.trail l.initial.report answer t' r';
}
