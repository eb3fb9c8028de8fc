use Rattle.std.proofs.Common.{◌≡◌, drop}
use Rattle.garde_form.specs.Texts.{all_digits}
use Rattle.garde_form.proofs.numbers.all_digits.Given as goal

-- the answer of the bytes that are left is that of all
abbrev pub invariant-loop-byte : goal.invariant-loop-byte
invariant-loop-byte l = all_digits (drop l.byte-index l.text) ≡ all_digits l.text
