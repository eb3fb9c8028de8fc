use Rattle.std.proofs.Common.{rules, sym, ◌∙◌}
use Rattle.garde_form.proofs.Numerals.{digit_at, no_digit_at, none_left}
use Rattle.garde_form.proofs.numbers.all_digits.Goals as goal

pub returns-then-not-is_digit : goal.returns-then-not-is_digit
returns-then-not-is_digit c = no_digit_at c.args.text.now c.loop-byte.byte-index (search rules) (sym c.if-not-is_digit.ensures.value) ∙ c.loop-byte.invariant

pub loop-byte-preserved : goal.loop-byte-preserved
loop-byte-preserved c = digit_at c.args.text.now c.loop-byte.byte-index (search rules) (sym c.if-not-is_digit.ensures.value) ∙ c.loop-byte.invariant

pub returns : goal.returns
returns c = none_left c.args.text.now c.loop-byte.byte-index (search rules) ∙ c.loop-byte.invariant
