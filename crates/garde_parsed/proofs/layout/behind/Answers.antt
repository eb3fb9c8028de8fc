use Rattle.std.proofs.Common.{rules, ◌∙◌, ap, Some}
use Rattle.garde_parsed.proofs.Layouts.{fits, differs, too_short, all_fit, rest}
use Rattle.garde_parsed.proofs.layout.behind.Goals as goal

pub returns-then-at-text : goal.returns-then-at-text
returns-then-at-text c = too_short c.args.shape.now c.args.text.now c.loop-at.at (search rules) (search rules) ∙ c.loop-at.invariant.0

pub returns-then-not-fits_byte : goal.returns-then-not-fits_byte
returns-then-not-fits_byte c = differs c.args.shape.now c.args.text.now c.loop-at.at (search rules) (search rules) (search rules) ∙ c.loop-at.invariant.0

pub loop-at-preserved : goal.loop-at-preserved
loop-at-preserved c = (fits c.args.shape.now c.args.text.now c.loop-at.at (search rules) (search rules) (search rules) ∙ c.loop-at.invariant.0, search rules, search rules)

pub returns : goal.returns
returns c = ap (λ z. Some z) (rest c.args.text.now c.loop-at.at) ∙ all_fit c.args.shape.now c.args.text.now c.loop-at.at (search rules) ∙ c.loop-at.invariant.0
