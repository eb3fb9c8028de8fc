use Rattle.std.proofs.Common.{All, subst, sym}
use Rattle.std.proofs.lemmas.List.Elements.{All-push}
use Rattle.garde_catalog.specs.Catalog.{IsFault}
use Rattle.garde_catalog.proofs.Made.{not_wrong}
use Rattle.garde_catalog.proofs.judge.add.Goals as goal

pub returns-in_ok-push-clause-faults : goal.returns-in_ok-push-clause-faults
returns-in_ok-push-clause-faults c = λ listed faults.
    let P = IsFault c.args.entries.now c.args.others.now in
    subst (All P) (sym c.in_ok-push.ensures.items) (All-push P c.args.faults.now.items _ faults (listed, c.in-Err.ensures.err))

pub returns-in_err-push-clause-good : goal.returns-in_err-push-clause-good
returns-in_err-push-clause-good c = λ good. absurd (not_wrong c.args.entries.now c.args.others.now _ _ good c.in-Err.ensures.err)
