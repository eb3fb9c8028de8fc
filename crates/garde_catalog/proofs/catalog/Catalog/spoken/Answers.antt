use Rattle.std.proofs.lemmas.Bool.{false≢true}
use Rattle.garde_catalog.proofs.Shipped.{spoken_good}
use Rattle.garde_catalog.proofs.catalog.Catalog.spoken.Goals as goal

pub returns-in_err-new-in-Some-clause-good : goal.returns-in_err-new-in-Some-clause-good
returns-in_err-new-in-Some-clause-good c = λ all other.
    let good = spoken_good c.args.tag c.args.offered.now c.args.otherwise.now c.in-Some.table.now all other c.in-Some.ensures in
    absurd (false≢true (c.in_err-new-in-Some.ensures.good good))
