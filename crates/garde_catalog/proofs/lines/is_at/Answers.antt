use Rattle.std.proofs.Common.{length, refl, subst, sym}
use Rattle.std.proofs.lemmas.Option.{slice_get_read}
use Rattle.garde_catalog.specs.Catalog.{HasCode}
use Rattle.garde_catalog.proofs.Made.{is_code}
use Rattle.garde_catalog.proofs.lines.is_at.Goals as goal

pub returns-in-Some : goal.returns-in-Some
returns-in-Some c = λ same.
    let l = c.in-Some.ensures.lookup in
    let there = slice_get_read c.args.entries.now (length c.args.entries.now) c.args.place c.in-Some.field-0.now refl l.3.0 l.1 in
    subst (λ found. HasCode found c.args.code.now) (sym there) (is_code c.in-Some.field-0.now.0.now c.args.code.now c.eq.ensures same)
