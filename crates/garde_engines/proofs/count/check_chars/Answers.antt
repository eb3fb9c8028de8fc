use Rattle.std.proofs.Common.{refl, arith}
use Rattle.garde_engines.specs.Counts.{char_count}
use Rattle.garde_engines.proofs.Units.{units_law, char_bytes, within_answer}
use Rattle.garde_engines.proofs.count.check_chars.Goals as goal

pub returns-then-is_surely_within : goal.returns-then-is_surely_within
returns-then-is_surely_within c =
    let n = char_count c.args.text.now in
    let law = units_law c.args.text.now c.utf8.text in
    let within = c.if-is_surely_within.ensures refl n (omega (arith, law.0, law.1)) (char_bytes c.args.text.now c.utf8.text) in
    within_answer c.args.min c.args.max n within.0 within.1
