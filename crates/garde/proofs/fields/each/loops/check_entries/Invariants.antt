use Rattle.std.proofs.Common.{List, drop, length}
use Rattle.std.specs.Map.Iter.{deref_pair}
use Rattle.std.proofs.lemmas.Iterator.{YieldsList}
use Rattle.garde_report.specs.Part.{part}
use Rattle.garde.proofs.Walks.{WalkedUpTo}
use Rattle.garde.proofs.fields.each.loops.check_entries.Given as goal

-- of what the source gives, the entries before this one are walked
abbrev pub invariant-loop-key : goal.invariant-loop-key
invariant-loop-key g l =
    (es : List _) → YieldsList g.I.Iterator.next_gives deref_pair l.initial.key-iterator es
    → WalkedUpTo (λ k. part g.K.PathComponentKind.kind (g.K.PathComponentKind.text k)) (λ x. (g.C.Check.visits l.check x).trees) (g.H.I18n.text l.h) es (drop (length l.yielded) es)
    l.initial.trail l.trail l.initial.report l.report
