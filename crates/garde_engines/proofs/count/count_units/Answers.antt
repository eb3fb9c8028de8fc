use Rattle.std.proofs.Common.{◌≡◌, ◌∙◌}
use Rattle.std.specs.Str.{chars}
use Rattle.garde_engines.specs.Counts.{astral_count, char_count}
use Rattle.garde_engines.proofs.Starts.{start_count, tall_count}
use Rattle.garde_engines.proofs.count.count_units.Goals as goal

pub returns : goal.returns
returns c =
    let all : c.count_outside-all.result ≡ char_count c.args.text.now =
    rw c.as_bytes.ensures.value at c.count_outside-all.ensures ∙ start_count c.args.text.now c.utf8.text in
    let astral : c.count_outside-astral.result ≡ astral_count (chars c.args.text.now) =
    rw c.as_bytes-2.ensures.value at c.count_outside-astral.ensures ∙ tall_count c.args.text.now c.utf8.text in
    cc
