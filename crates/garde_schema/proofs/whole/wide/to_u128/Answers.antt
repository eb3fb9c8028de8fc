use Rattle.std.proofs.Common.{rules}
use Rattle.garde_schema.proofs.Wide.{number_read}
use Rattle.garde_schema.proofs.whole.wide.to_u128.Goals as goal

pub returns : goal.returns
returns c = number_read c.args.numeral.now.whole c.args.numeral.now.fraction (search rules) c.with_digits.ensures c.with_digits-front.ensures c.whole-digits.ensures.value c.fraction.ensures.value
