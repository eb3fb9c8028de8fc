use Rattle.std.proofs.Common.{◌≡◌, Some, IfSome, subst, sym}
use Rattle.garde_decimal.specs.Value.{decimal_of}
use Rattle.garde_described.specs.Whole.{whole}
use Rattle.garde_described.proofs.Whole.{whole_integer}
use Rattle.garde_described.proofs.types.is_integer.Goals as goal

pub returns-in-Some : goal.returns-in-Some
returns-in-Some c = sym (whole_integer c.args.text.now c.in-Some.field-0 (subst (λ r. IfSome r (λ n. decimal_of c.args.text.now ≡ Some (whole n))) c.in-Some.is c.whole.ensures))
