use Rattle.garde_decimal.proofs.Points.{digits_append}
use Rattle.garde_decimal.proofs.cut.is_zero.Goals as goal

pub compare_fractions-requires-clause-a_digits : goal.compare_fractions-requires-clause-a_digits
compare_fractions-requires-clause-a_digits c = digits_append c.whole.result.now c.fraction.result.now c.whole.ensures.digits c.fraction.ensures.digits
