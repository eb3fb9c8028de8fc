use Rattle.std.proofs.Common.{rules, ◌∙◌}
use Rattle.garde_parsed.proofs.Colons.{colon_at, no_colon_at, none_left}
use Rattle.garde_parsed.proofs.ip_addresses.has_colon.Goals as goal

pub returns-then-byte-eq58 : goal.returns-then-byte-eq58
returns-then-byte-eq58 c = colon_at c.args.text.now c.loop-byte.byte-index (search rules) (search rules) ∙ c.loop-byte.invariant

pub loop-byte-preserved : goal.loop-byte-preserved
loop-byte-preserved c = no_colon_at c.args.text.now c.loop-byte.byte-index (search rules) (search rules) ∙ c.loop-byte.invariant

pub returns : goal.returns
returns c = none_left c.args.text.now c.loop-byte.byte-index (search rules) ∙ c.loop-byte.invariant
