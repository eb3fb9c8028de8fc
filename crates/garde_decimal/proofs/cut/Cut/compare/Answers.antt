use Rattle.std.proofs.Common.{◌≡◌}
use Rattle.fast_float.specs.Text.{digits_of}
use Rattle.garde_decimal.proofs.Signs.{across_below, across_above, not_both}
use Rattle.garde_decimal.proofs.cut.Cut.compare.Goals as goal

pub returns-then-self-2 : goal.returns-then-self-2
returns-then-self-2 c =
    across_below c.self.inside.negative c.other.inside.negative c.self.inside.numeral c.other.inside.numeral c.args.self.now c.args.other.now
    c.self.view_is c.other.view_is c.if-self-2.true c.if-self-other.false
    (not_both c.are_zero.result ((digits_of c.self.inside.numeral ≡ 0) × (digits_of c.other.inside.numeral ≡ 0)) c.are_zero.ensures c.if-are_zero.false)

pub returns-else-self-2 : goal.returns-else-self-2
returns-else-self-2 c =
    across_above c.self.inside.negative c.other.inside.negative c.self.inside.numeral c.other.inside.numeral c.args.self.now c.args.other.now
    c.self.view_is c.other.view_is c.if-self-2.false c.if-self-other.false
    (not_both c.are_zero.result ((digits_of c.self.inside.numeral ≡ 0) × (digits_of c.other.inside.numeral ≡ 0)) c.are_zero.ensures c.if-are_zero.false)
