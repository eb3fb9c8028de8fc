use Rattle.std.proofs.Common.{◌≡◌, [], take, drop, sym, ap, ◌∙◌}
use Rattle.std.proofs.lemmas.List.{drop_all, take_min}
use Rattle.garde_tape.specs.Place.{text_start, place_after}
use Rattle.garde_tape.specs.Counting.{counts}
use Rattle.garde_tape.proofs.place.place_of_byte.Goals as goal

-- all bytes before the offset are counted
pub returns : goal.returns
returns c =
    let text = c.args.bytes.now in
    let before = take c.min.result text in
    let done : drop c.loop-byte.byte-index before ≡ [] = drop_all c.loop-byte.byte-index before c.loop-byte-test.false in
    ap (place_after c.loop-byte.here) (sym done) ∙ c.loop-byte.invariant.place
    ∙ ap (λ n. place_after text_start (take n text)) c.min.ensures
    ∙ ap (place_after text_start) (take_min c.args.offset text)
    ∙ counts text c.args.offset
