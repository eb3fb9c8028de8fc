use Rattle.std.proofs.Common.{◌≡◌, ◌<◌, ◌∙◌, length, is_some, slice_index, arith}
use Rattle.std.proofs.lemmas.Grind.{common_steps}
use Rattle.memchr.specs.Find.{IsFirstByte, FindsNeedle, is_byte}
use Rattle.garde_rules.proofs.TextLemmas.{part_first, part_found}
use Rattle.garde_rules.proofs.contains.has_pattern.Goals as goal

pub returns-in-len1 : goal.returns-in-len1
returns-in-len1 c =
    let p = c.args.pattern.now in
    let found : IsFirstByte (is_byte (slice_index p 0)) c.args.text.now c.memchr.result =
    rw c.as_bytes-in-len1.ensures.value at (rw c.as_bytes.ensures.value at c.memchr.ensures) in
    let short : length p < 2 = grind (arith, c.in-len1.len_below, c.as_bytes.ensures.value) in
    let some : 0 < length p = grind (arith, c.in-len1.len_at_least, c.as_bytes.ensures.value) in
    c.is_some.ensures ∙ part_first c.memchr.result p c.args.text.now short some found

pub returns-in_default : goal.returns-in_default
returns-in_default c =
    let found : FindsNeedle c.args.text.now c.args.pattern.now 0 c.find.result =
    rw c.as_bytes-in_default.ensures.value at (rw c.as_bytes-in_default-2.ensures.value at c.find.ensures) in
    c.is_some-in_default.ensures ∙ part_found c.find.result c.args.pattern.now c.args.text.now found
