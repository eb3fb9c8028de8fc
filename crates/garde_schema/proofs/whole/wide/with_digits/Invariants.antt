use Rattle.std.proofs.Common.{◌≡◌, drop}
use Rattle.std.specs.Str.Parse.{AllDigits}
use Rattle.garde_schema.specs.Wide.{with_digits}
use Rattle.garde_schema.proofs.whole.wide.with_digits.Given as goal

-- the digits that are left, behind the number so far, make the number of all
abbrev pub invariant-loop-digit : goal.invariant-loop-digit
invariant-loop-digit l = (with_digits l.fn.first l.digits ≡ with_digits l.number (drop l.digit-index l.digits)) × AllDigits 10 (drop l.digit-index l.digits)
