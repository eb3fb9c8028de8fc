use Rattle.std.proofs.Common.{List, drop, length}
use Rattle.std.specs.Iterator.Adapters.{enumerate_steps}
use Rattle.std.specs.Map.Iter.{deref}
use Rattle.std.proofs.lemmas.Iterator.{YieldsList}
use Rattle.garde_report.specs.Part.{index_part}
use Rattle.garde.proofs.Walks.{WalkedUpTo}
use Rattle.garde.proofs.fields.each.loops.check_items.Given as goal

-- of what the source gives, numbered, the items before this one are walked
abbrev pub invariant-loop-index : goal.invariant-loop-index
invariant-loop-index g l =
    (es : List _) → YieldsList (enumerate_steps g.I.Iterator.next_gives) (λ e. (e.0, deref e.1)) l.initial.index-iterator es
    → WalkedUpTo index_part (λ x. (g.C.Check.visits l.check x).trees) (g.H.I18n.text l.h) es (drop (length l.yielded) es)
    l.initial.trail l.trail l.initial.report l.report
