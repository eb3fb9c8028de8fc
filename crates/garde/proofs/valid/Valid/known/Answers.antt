use Rattle.garde.proofs.Known.{none_bears_of}
use Rattle.garde.proofs.valid.Valid.known.Goals as goal

-- what is known under the context that was handed in
pub new-requires : goal.new-requires
new-requires g c = (c.args.ctx.now, none_bears_of _ c.requires, c.requires)
