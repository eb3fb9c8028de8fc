use Rattle.std.proofs.Common.{drop}
use Rattle.garde_report.specs.Part.{key_part}
use Rattle.garde.proofs.Author.{WalkedUpTo}
use Rattle.garde_schema.proofs.Maps.{each_name}
use Rattle.garde_schema.proofs.keys.ask_each.Given as goal

-- the names before this one are walked
abbrev pub invariant-loop-entry : goal.invariant-loop-entry
invariant-loop-entry g l =
    WalkedUpTo (λ name. key_part name) (λ name. (g.R.Rules.asks l.rules name).trees) (g.H.I18n.text l.h) (each_name l.entries) (drop l.entry-index (each_name l.entries))
    l.initial.trail l.trail l.initial.report l.report
