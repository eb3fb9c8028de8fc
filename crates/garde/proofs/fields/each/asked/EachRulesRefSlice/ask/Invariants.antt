use Rattle.std.proofs.Common.{drop}
use Rattle.std.specs.List.{enumerate_from}
use Rattle.garde_report.specs.Part.{index_part}
use Rattle.garde.proofs.Walks.{WalkedUpTo}
use Rattle.garde.proofs.fields.each.asked.EachRulesRefSlice.ask.Given as goal

-- of the items, numbered from the first on, those before this one are walked
abbrev pub invariant-loop-index : goal.invariant-loop-index
invariant-loop-index g l =
    WalkedUpTo index_part (λ x. (g.R.Rules.asks l.self.0 x).trees) (g.H.I18n.text l.h) (enumerate_from 0 l.items) (drop l.index (enumerate_from 0 l.items))
    l.initial.trail l.trail l.initial.report l.report
