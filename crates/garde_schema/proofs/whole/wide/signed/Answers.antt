use Rattle.std.proofs.Common.{◌≡◌, drop, get_or, true, false, ◌==◌, sym, ap, ◌∙◌, arith, take_all, length-drop}
use Rattle.fast_float.specs.Text.{scan}
use Rattle.garde_tape.specs.Number.{signed_of, negative_of, positive_of}
use Rattle.garde_schema.proofs.whole.wide.signed.Goals as goal

pub returns-then-has_minus : goal.returns-then-has_minus
returns-then-has_minus c =
    let s = c.args.text.now in
    let below : (get_or s 0 0 == 45) ≡ true = sym c.if-has_minus.ensures.value in
    let parts : c.scan.result ≡ scan (drop 1 s) = c.scan.ensures.parts ∙ ap scan (take_all _ (drop 1 s) (omega (arith, length-drop 1 s))) in
    let read : negative_of 128 (scan (drop 1 s)) ≡ signed_of 128 s = rw below in
    c.negative.ensures ∙ ap (negative_of 128) parts ∙ read

pub returns-else-has_minus : goal.returns-else-has_minus
returns-else-has_minus c =
    let s = c.args.text.now in
    let above : (get_or s 0 0 == 45) ≡ false = sym c.if-has_minus.ensures.value in
    let read : positive_of 128 (scan s) ≡ signed_of 128 s = rw above in
    c.positive.ensures ∙ ap (positive_of 128) c.scan-else-has_minus.ensures.parts ∙ read
