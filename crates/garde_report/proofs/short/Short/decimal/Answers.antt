use Rattle.std.proofs.Common.{◌≡◌, drop, take, ◌-◌, sym, subst, ◌∙◌, arith, IsUtf8}
use Rattle.std.specs.Fmt.{decimal}
use Rattle.std.proofs.lemmas.List.{take_all, length-drop}
use Rattle.std.proofs.lemmas.Str.{IsUtf8-from_ascii}
use Rattle.std.proofs.lemmas.Fmt.{IsAscii-decimal}
use Rattle.garde_report.proofs.short.Short.decimal.Goals as goal

pub from_utf8_unchecked-text-requires : goal.from_utf8_unchecked-text-requires
from_utf8_unchecked-text-requires g c =
    let n = c.args.number in
    let e = c.write_digits-start in
    let same : take (20 - e.result) (drop e.result e.new.digits) ≡ decimal n =
    take_all (20 - e.result) _ (omega (arith, length-drop e.result e.new.digits, e.array_long)) ∙ e.ensures.written in
    subst IsUtf8 (sym same) (IsUtf8-from_ascii _ (IsAscii-decimal n c.ranges.number.fits))
