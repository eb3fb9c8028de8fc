use Rattle.garde.proofs.unvalidated.Unvalidated.validate_with.Goals as goal

-- the context that was handed in is one that found no fault
pub new-requires : goal.new-requires
new-requires g c = (c.args.ctx.now, c.in-Ok.ensures.answer, c.in-Ok.ensures.known)
