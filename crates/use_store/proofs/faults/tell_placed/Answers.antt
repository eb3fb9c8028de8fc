use Rattle.std.proofs.Common.{ap, ◌∙◌}
use Rattle.garde_places.specs.Format.{lines_text}
use Rattle.use_store.proofs.Told.{on_ok}
use Rattle.use_store.proofs.faults.tell_placed.Goals as goal

pub returns : goal.returns
returns g c =
    on_ok c.write_all.result
    (λ appended. (
      c.as_bytes.result.now,
      appended,
      record {
        line = c.args.line;
        faults = c.in_ok-faults.faults.items;
        are_faults = c.in_ok-faults.ensures.faults;
        are_there = c.in_ok-faults.ensures.places;
        is_text = c.as_bytes.ensures.value ∙ c.in_ok-text.ensures.text ∙ ap (lines_text c.args.printed.format c.args.printed.file.now) c.deref.ensures.value;
      },
    ))
    c.write_all.ensures.bytes
