use Rattle.std.proofs.Common.{refl, ap, ◌∙◌}
use Rattle.csv.specs.Records.{fields_of}
use Rattle.garde_csv.proofs.Taking.{gives-next, gives-none}
use Rattle.garde_csv.proofs.records.Records.read.Goals as goal

pub returns-clause-gives : goal.returns-clause-gives
returns-clause-gives g c =
    let taken = rw c.in-Some.is at c.in_ok-found.ensures.takes in
    gives-next _ _ c.in-Some.walk _ _ _ _ _ taken c.finished.ensures refl refl refl

pub returns-in_default-clause-gives : goal.returns-in_default-clause-gives
returns-in_default-clause-gives g c =
    let taken = rw c.in_default.is at c.in_ok-found.ensures.takes in
    gives-none _ _ _ _ _ _ taken (ap fields_of c.replace.ensures.after ∙ c.new.ensures.fields) c.take.ensures.place
