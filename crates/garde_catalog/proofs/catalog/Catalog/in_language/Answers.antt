use Rattle.std.proofs.Common.{Result, Ok, Err, IfOk, IfErr, inl, inr}
use Rattle.garde_catalog.specs.Lookup.{IsFound}
use Rattle.garde_catalog.specs.declared.catalog.Catalog.{Catalog}
use Rattle.garde_catalog.proofs.Shipped.{there_good}
use Rattle.garde_catalog.proofs.catalog.Catalog.in_language.Goals as goal

-- what a result has it still has, where that implies something else
of_ok : {E : Type 0} (made : Result Catalog E) (P Q : Catalog → Type 0) → ((catalog : Catalog) → P catalog → Q catalog) → IfOk made P → IfOk made Q
of_ok (Ok catalog) P Q implies is = implies catalog is
of_ok (Err error) P Q implies is = tt

of_err : {E : Type 0} (made : Result Catalog E) (P Q : E → Type 0) → ((error : E) → P error → Q error) → IfErr made P → IfErr made Q
of_err (Ok catalog) P Q implies is = tt
of_err (Err error) P Q implies is = implies error is

pub returns-in-Some-clause-ok : goal.returns-in-Some-clause-ok
returns-in-Some-clause-ok c = of_ok _ _ _ (λ catalog is. inl (c.in-Some.language, c.in-Some.ensures, is)) c.new.ensures.ok

pub returns-in-Some-clause-err : goal.returns-in-Some-clause-err
returns-in-Some-clause-err c = of_err _ _ _ (λ error is. inl (c.in-Some.language, c.in-Some.ensures, is)) c.new.ensures.err

pub returns-in-None-clause-ok : goal.returns-in-None-clause-ok
returns-in-None-clause-ok c = of_ok _ _ _ (λ catalog is. inr (c.in-None.ensures, is)) c.new-in-None.ensures.ok

pub returns-in-None-clause-err : goal.returns-in-None-clause-err
returns-in-None-clause-err c = of_err _ _ _ (λ error is. inr (c.in-None.ensures, is)) c.new-in-None.ensures.err

pub returns-in-Some-clause-good : goal.returns-in-Some-clause-good
returns-in-Some-clause-good c = λ all _.
    c.new.ensures.good (there_good c.args.offered.now (IsFound c.args.offered.now c.args.tag.now) c.in-Some.language all c.in-Some.ensures)
