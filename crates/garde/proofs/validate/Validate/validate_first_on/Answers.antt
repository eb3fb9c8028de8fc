use Rattle.garde.proofs.Firsts.{surely_first, known_first}
use Rattle.garde.proofs.validate.Validate.validate_first_on.Goals as goal

pub returns-clause-sure : goal.returns-clause-sure
returns-clause-sure g c = surely_first (g.Self.Stated.visits c.args.self.now c.args.ctx.now) _ _ _ _ c.walk.result c.walk.ensures.on

pub returns-clause-known : goal.returns-clause-known
returns-clause-known g c = known_first (g.Self.Stated.visits c.args.self.now c.args.ctx.now) _ _ _ _ c.walk.result c.walk.ensures.on
