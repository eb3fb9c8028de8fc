use Rattle.std.proofs.Common.{◌∷◌, ◌+◌, ap, ◌∙◌, arith}
use Rattle.std.proofs.lemmas.Bool.Decides.{nat_tests}
use Rattle.garde_engines.proofs.OctetLemmas.{octet_none, octet_zero, octet_one, octet_two, octet_three, octet_big}
use Rattle.garde_engines.proofs.addresses.v4.after_octet.Goals as goal

pub returns-in_err-first : goal.returns-in_err-first
returns-in_err-first c = rw c.from_residual.ensures (octet_none c.args.bytes.now c.in_err-first.ensures)

pub returns-then-first-eq0 : goal.returns-then-first-eq0
returns-then-first-eq0 c =
    octet_zero c.args.bytes.now c.in_ok-first.rest.now (rw c.if-first-eq0.true at c.in_ok-first.ensures.1)

pub returns-in_default : goal.returns-in_default
returns-in_default c =
    octet_one _ c.in_ok-first.rest.now c.in_ok-first.first c.in_ok-first.ensures.0 c.in_ok-first.ensures.1 c.in_default.ensures

pub returns-in_default-split_digit : goal.returns-in_default-split_digit
returns-in_default-split_digit c =
    let h = c.in_ok-first.ensures in
    let k = c.in-Some.ensures in
    octet_two _ c.in-Some.more.now c.in_ok-first.first c.in-Some.second h.0 (omega (arith, c.if-first-eq0.false)) k.0
    (h.1 ∙ ap (λ z. (48 + c.in_ok-first.first) ∷ z) k.1) c.in_default-split_digit.ensures

pub returns-then-is_small : goal.returns-then-is_small
returns-then-is_small c =
    let h = c.in_ok-first.ensures in
    let k = c.in-Some.ensures in
    let j = c.in-Some-split_digit.ensures in
    octet_three _ c.in-Some-split_digit.last.now c.in_ok-first.first c.in-Some.second c.in-Some-split_digit.third h.0
    (omega (arith, c.if-first-eq0.false)) k.0 j.0 (grind (arith, nat_tests, c.is_small.ensures, c.if-is_small.true))
    (h.1 ∙ ap (λ z. (48 + c.in_ok-first.first) ∷ z) (k.1 ∙ ap (λ z. (48 + c.in-Some.second) ∷ z) j.1))

pub returns-else-is_small : goal.returns-else-is_small
returns-else-is_small c =
    let h = c.in_ok-first.ensures in
    let k = c.in-Some.ensures in
    let j = c.in-Some-split_digit.ensures in
    octet_big _ c.in-Some-split_digit.last.now c.in_ok-first.first c.in-Some.second c.in-Some-split_digit.third h.0 k.0 j.0
    (grind (arith, nat_tests, c.is_small.ensures, c.if-is_small.false))
    (h.1 ∙ ap (λ z. (48 + c.in_ok-first.first) ∷ z) (k.1 ∙ ap (λ z. (48 + c.in-Some.second) ∷ z) j.1))
