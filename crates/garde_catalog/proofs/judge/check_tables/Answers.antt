use Rattle.std.proofs.Common.{◌≡◌, ◌≢◌, [], length, ap, arith}
use Rattle.std.proofs.lemmas.Grind.{common_steps}
use Rattle.garde_catalog.proofs.Made.{all_good, not_good}
use Rattle.garde_catalog.proofs.judge.check_tables.Goals as goal

pub returns-then-is_empty-clause-ok : goal.returns-then-is_empty-clause-ok
returns-then-is_empty-clause-ok c =
    let none : c.in_ok-faults.faults.items ≡ [] = grind (arith, common_steps) in
    all_good c.args.entries.now c.args.others.now c.in_ok-faults.faults.items none c.in_ok-faults.ensures.told

pub returns-else-is_empty-clause-err : goal.returns-else-is_empty-clause-err
returns-else-is_empty-clause-err c =
    let some : c.in_ok-faults.faults.items ≢ [] = λ e. grind (arith, common_steps, ap length e) in
    (c.in_ok-faults.ensures.faults, c.in_ok-faults.ensures.told, not_good c.args.entries.now c.args.others.now c.in_ok-faults.faults.items some c.in_ok-faults.ensures.faults)

pub returns-else-is_empty-clause-good : goal.returns-else-is_empty-clause-good
returns-else-is_empty-clause-good c = λ good.
    let some : c.in_ok-faults.faults.items ≢ [] = λ e. grind (arith, common_steps, ap length e) in
    absurd (not_good c.args.entries.now c.args.others.now c.in_ok-faults.faults.items some c.in_ok-faults.ensures.faults good)
