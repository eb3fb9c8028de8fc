use Rattle.std.proofs.Common.{ap, ◌∙◌}
use Rattle.garde_tape.specs.Place.{place_at}
use Rattle.garde_toml.proofs.error.TomlError.stop.Goals as goal

-- the bytes before the span are counted
pub returns : goal.returns
returns c =
    let counted = c.place_of_byte.ensures ∙ ap (λ bytes. place_at bytes c.in_ok-span.span.start) c.as_bytes.ensures.value in
    record {
      place = (c.in_ok-span.span.start, counted);
      stop = rw c.in-Parse.is (c.in_ok-span.ensures.none, counted ∙ ap (λ n. place_at c.args.text.now n) c.in_ok-span.ensures.range.0);
    }
