use Rattle.std.proofs.Common.{rules, ◌∙◌}
use Rattle.garde_parsed.proofs.Layouts.{digit, no_digit, no_byte, rest}
use Rattle.garde_parsed.proofs.layout.behind_digits.Goals as goal

pub loop-at-preserved : goal.loop-at-preserved
loop-at-preserved c = (digit c.args.text.now c.loop-at.at (search rules) (search rules) ∙ c.loop-at.invariant.0, search rules)

pub returns-then-not-is_digit : goal.returns-then-not-is_digit
returns-then-not-is_digit c = rest c.args.text.now c.loop-at.at ∙ no_digit c.args.text.now c.loop-at.at (search rules) (search rules) ∙ c.loop-at.invariant.0

pub returns : goal.returns
returns c = rest c.args.text.now c.loop-at.at ∙ no_byte c.args.text.now c.loop-at.at (search rules) ∙ c.loop-at.invariant.0
