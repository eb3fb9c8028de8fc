use Rattle.std.proofs.Common.{Ok, Err}
use Rattle.garde.proofs.Answering.{headline, surely}
use Rattle.garde.proofs.Firsts.{answers_whole}
use Rattle.garde.proofs.Known.{known_of}
use Rattle.garde.proofs.validate.Validate.validate_on.Goals as goal

pub returns-in-Ok-clause-on : goal.returns-in-Ok-clause-on
returns-in-Ok-clause-on g c = c.in-Ok.ensures.on

pub returns-in-Ok-clause-headline : goal.returns-in-Ok-clause-headline
returns-in-Ok-clause-headline g c =
    headline (g.Self.Stated.visits c.args.self.now c.args.ctx.now) (g.H.I18n.text c.args.h.now) _ _ (Ok tt) (returns-in-Ok-clause-on g c)

pub returns-in-Ok-clause-known : goal.returns-in-Ok-clause-known
returns-in-Ok-clause-known g c = known_of (g.Self.Stated.visits c.args.self.now c.args.ctx.now) (returns-in-Ok-clause-on g c).0

pub returns-in-Err-clause-on : goal.returns-in-Err-clause-on
returns-in-Err-clause-on g c =
    answers_whole (g.Self.Stated.visits c.args.self.now c.args.ctx.now) _ _ _ c.in-Err.error c.into_whole.ensures c.in-Err.ensures.on c.in-Err.ensures.whole

pub returns-in-Err-clause-headline : goal.returns-in-Err-clause-headline
returns-in-Err-clause-headline g c =
    headline (g.Self.Stated.visits c.args.self.now c.args.ctx.now) _ _ _ (Err c.into_whole.result) (returns-in-Err-clause-on g c)

pub returns-in-Err-clause-sure : goal.returns-in-Err-clause-sure
returns-in-Err-clause-sure g c =
    surely (g.Self.Stated.visits c.args.self.now c.args.ctx.now) _ _ _ (Err c.into_whole.result) (returns-in-Err-clause-on g c)
