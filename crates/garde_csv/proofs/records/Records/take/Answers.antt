use Rattle.std.proofs.Common.{◌∙◌, sym}
use Rattle.garde_csv.specs.Lists.{buffered}
use Rattle.garde_csv.proofs.Feeding.{none-left}
use Rattle.garde_csv.proofs.Taking.{follows-finish}
use Rattle.garde_csv.proofs.records.Records.take.Goals as goal

pub returns-then-is_empty-clause-takes : goal.returns-then-is_empty-clause-takes
returns-then-is_empty-clause-takes g c =
    let none = none-left (buffered c.fill.new.self) c.ready-piece.result.now c.ready-piece.ensures (sym c.is_empty.ensures ∙ c.if-is_empty.true) in
    follows-finish _ _ _ _ _ _ _ _ _ c.pieces.invariant.0 c.in_ok-fill.ensures.keeps (c.in_ok-fill.ensures.end none) c.finish.ensures.ends
