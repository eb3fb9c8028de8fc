use Rattle.garde_decimal.proofs.Points.{digits_append}
use Rattle.garde_decimal.proofs.cut.digits_u64.Goals as goal

pub significand-requires-clause-digits : goal.significand-requires-clause-digits
significand-requires-clause-digits c = digits_append c.whole.result.now c.fraction.result.now c.whole.ensures.digits c.fraction.ensures.digits
