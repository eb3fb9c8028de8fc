use Rattle.std.proofs.Common.{drop}
use Rattle.garde_report.specs.Part.{index_part}
use Rattle.garde.specs.Fields.{asks_text}
use Rattle.garde.specs.Firsts.{firsts}
use Rattle.garde.specs.Visits.{found}
use Rattle.garde.proofs.Walks.{WalkedUpTo}
use Rattle.garde.proofs.fields.unique.UniqueRulesRefSlice.ask.Given as goal

-- the items before this one are walked, each asked whether it is the first of those that are the same
abbrev pub invariant-loop-index : goal.invariant-loop-index
invariant-loop-index g l =
    let all = firsts (λ x y. g.S.Same.same l.self.1 x y) l.items in
    WalkedUpTo index_part (λ first. (found (asks_text l.self.0.now first)).trees) (g.H.I18n.text l.h) all (drop l.index all)
    l.initial.trail l.trail l.initial.report l.report
