use Rattle.std.proofs.Common.{◌≡◌, arith, slice_index}
use Rattle.std.proofs.lemmas.Bool.{eqb-true}
use Rattle.std.proofs.lemmas.Str.{IsCharBoundary-after_ascii}
use Rattle.garde_check.proofs.lines.split_line.Goals as goal

-- a character begins after the line feed
pub range_from-requires : goal.range_from-requires
range_from-requires c =
    let text = c.args.text.now in
    let end = c.in_ok-end.end in
    let found = rw c.as_bytes.ensures.value at (c.in_ok-end.ensures {u = tt}) in
    let feed : slice_index text end ≡ 10 = eqb-true (slice_index text end) 10 found.1 in
    λ _. IsCharBoundary-after_ascii text end c.utf8.text found.0.high (omega arith)
