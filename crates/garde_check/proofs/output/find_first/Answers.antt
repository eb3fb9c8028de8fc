use Rattle.garde_check.proofs.FirstFaults.{finds_none, finds_all, finds_first}
use Rattle.garde_check.proofs.output.find_first.Goals as goal

pub returns-in-Ok : goal.returns-in-Ok
returns-in-Ok g c = finds_none (g.T.Stated.visits c.args.value.now c.args.ctx.now) c.args.most _ c.new.ensures c.in-Ok.ensures.answer

pub returns-in-Err-All : goal.returns-in-Err-All
returns-in-Err-All g c =
    rw c.in-Err-All.field-0-is (finds_all (g.T.Stated.visits c.args.value.now c.args.ctx.now) c.args.most _ c.in-Err-All.field-0-is c.in-Err-All.ensures.answer)

pub returns-in-Err-First : goal.returns-in-Err-First
returns-in-Err-First g c =
    rw c.in-Err-First.field-0-is (finds_first (g.T.Stated.visits c.args.value.now c.args.ctx.now) c.args.most _ c.in-Err-First.field-0-is c.in-Err-First.ensures.answer)
