use Rattle.garde.proofs.Firsts.{decides_more}
use Rattle.garde.proofs.validate.Validate.is_valid.Goals as goal

-- it has more than no fault
pub returns-in-Err-First-clause-answer : goal.returns-in-Err-First-clause-answer
returns-in-Err-First-clause-answer g c =
    decides_more (g.Self.Stated.visits c.args.self.now c.args.ctx.now) _ _ _ c.in-Err-First.field-0-is c.in-Err-First.ensures.answer
