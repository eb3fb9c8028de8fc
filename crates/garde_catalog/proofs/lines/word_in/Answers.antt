use Rattle.std.proofs.Common.{◌∙◌, ap, length, refl}
use Rattle.std.proofs.lemmas.Option.{slice_get_past, slice_get_read}
use Rattle.garde_catalog.specs.Catalog.{only_text, texts_of}
use Rattle.garde_catalog.proofs.Made.{word_elsewhere, word_in_place}
use Rattle.garde_catalog.proofs.lines.word_in.Goals as goal

pub returns-in-Some : goal.returns-in-Some
returns-in-Some c =
    let l = c.in-Some.ensures.lookup in
    let lines = c.args.lines.now.ordered.now in
    word_in_place c.args.lines.now c.args.others.now c.args.place c.in-Some.field-0.now
    (slice_get_read lines (length lines) c.args.place c.in-Some.field-0.now refl l.3.0 l.1)

pub returns-in-None : goal.returns-in-None
returns-in-None c =
    c.only_text.ensures ∙ ap (λ code. only_text (texts_of c.args.lines.now.all.now c.args.others.now.all.now code)) c.code_at.ensures
    ∙ word_elsewhere c.args.lines.now c.args.others.now c.args.place
    (slice_get_past c.args.lines.now.ordered.now c.args.place c.in-None.ensures.lookup.3)
