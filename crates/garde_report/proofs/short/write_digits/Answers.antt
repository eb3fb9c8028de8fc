use Rattle.std.proofs.Common.{◌≡◌, ◌≤◌, ◌<◌, ◌^◌, ℕ, ◌+◌, ◌-◌, ◌/◌, ◌%◌, List, [], ◌∷◌, ◌++◌, length, drop, refl, sym, ap, ◌∙◌, arith, append_assoc, append-nil, length-append, length-set, lit<}
use Rattle.std.specs.Fmt.{decimal}
use Rattle.std.proofs.lemmas.Fmt.{decimal_step, decimal_digit, decimal_nonempty, length-decimal-le}
use Rattle.std.proofs.lemmas.List.{drop_all}
use Rattle.std.proofs.lemmas.Grind.{drop-set_at}
use Rattle.garde_report.proofs.short.write_digits.Goals as goal

-- a number of more than one digit has one more than its tenth
one_more : (n : ℕ) → 10 ≤ n → n < 2 ^ 64 → length (decimal n) ≡ length (decimal (n / 10)) + 1
one_more n tens fits = ap length (decimal_step n tens fits) ∙ length-append (decimal (n / 10)) ((48 + n % 10) ∷ [])

lit20 : 2 ^ 64 < 10 ^ 20
lit20 = lit< tt

-- its last digit stands before what was written
digit_before : (n : ℕ) (digits : List ℕ) → 10 ≤ n → n < 2 ^ 64 → decimal (n / 10) ++ (48 + n % 10) ∷ digits ≡ decimal n ++ digits
digit_before n digits tens fits =
    sym (append_assoc (decimal (n / 10)) ((48 + n % 10) ∷ []) digits) ∙ ap (λ ds. ds ++ digits) (sym (decimal_step n tens fits))

pub loop-rest-init : goal.loop-rest-init
loop-rest-init c = record {
  within = omega arith;
  room = length-decimal-le 20 c.args.number (omega arith) (omega (arith, c.ranges.number.fits, lit20)) c.ranges.number.fits;
  long = c.told-digits;
  written = ap (λ ds. decimal c.args.number ++ ds) (drop_all 20 c.args.digits.now (omega (arith, c.told-digits))) ∙ append-nil _;
}

pub overflow_sub-start : goal.overflow_sub-start
overflow_sub-start c =
    let some = decimal_nonempty c.loop-rest.rest c.loop-rest.auto.rest-fits.fits in
    omega arith

pub loop-rest-preserved : goal.loop-rest-preserved
loop-rest-preserved c =
    let l = c.loop-rest in
    let tens : 10 ≤ l.rest = c.loop-rest-test.true in
    let fits = l.auto.rest-fits.fits in
    let tenth : l.rest / 10 < 2 ^ 64 = omega arith in
    let some = decimal_nonempty (l.rest / 10) tenth in
    let more = one_more l.rest tens fits in
    let next : l.start - 1 + 1 ≡ l.start = omega arith in
    record {
      within = omega arith;
      room = omega arith;
      long = length-set l.digits (l.start - 1) (48 + l.rest % 10) ∙ l.invariant.long;
      written =
          ap (λ ds. decimal (l.rest / 10) ++ ds)
          (drop-set_at l.digits (l.start - 1) (l.start - 1) (48 + l.rest % 10) refl (omega (arith, l.invariant.long))
          ∙ ap (λ k. (48 + l.rest % 10) ∷ drop k l.digits) next)
          ∙ digit_before l.rest (drop l.start l.digits) tens fits ∙ l.invariant.written;
    }

pub overflow_sub-start-2 : goal.overflow_sub-start-2
overflow_sub-start-2 c =
    let some = decimal_nonempty c.loop-rest.rest c.loop-rest.auto.rest-fits.fits in
    omega arith

pub returns-clause-written : goal.returns-clause-written
returns-clause-written c =
    let l = c.loop-rest in
    let some = decimal_nonempty l.rest l.auto.rest-fits.fits in
    let next : l.start - 1 + 1 ≡ l.start = omega arith in
    drop-set_at l.digits (l.start - 1) (l.start - 1) (48 + l.rest) refl (omega (arith, l.invariant.long))
    ∙ ap (λ k. (48 + l.rest) ∷ drop k l.digits) next
    ∙ ap (λ ds. ds ++ drop l.start l.digits) (sym (decimal_digit l.rest c.loop-rest-test.false)) ∙ l.invariant.written
