use Rattle.std.proofs.Common.{drop}
use Rattle.std.specs.List.{enumerate_from}
use Rattle.garde_report.specs.Part.{index_part}
use Rattle.garde.proofs.Walks.{WalkedUpTo}
use Rattle.garde.proofs.fields.each.part.check_part.Given as goal

-- of the items, numbered from the first index on, those before this one are walked
abbrev pub invariant-loop-index : goal.invariant-loop-index
invariant-loop-index g l =
    WalkedUpTo index_part (λ x. (g.C.Check.visits l.check x).trees) (g.H.I18n.text l.h) (enumerate_from l.first l.part) (drop l.index (enumerate_from l.first l.part))
    l.initial.trail l.trail l.initial.report l.report
