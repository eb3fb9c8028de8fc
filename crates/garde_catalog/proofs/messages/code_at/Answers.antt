use Rattle.std.proofs.Common.{length, refl}
use Rattle.std.proofs.lemmas.Option.{slice_get_read}
use Rattle.garde_catalog.proofs.Made.{code_there, no_code_there}
use Rattle.garde_catalog.proofs.messages.code_at.Goals as goal

pub returns-in-Some : goal.returns-in-Some
returns-in-Some c =
    let l = c.in-Some.ensures.lookup in
    let messages = c.messages.result.now in
    code_there messages c.args.place c.in-Some.field-0.now c.messages.ensures
    (slice_get_read messages (length messages) c.args.place c.in-Some.field-0.now refl l.3.0 l.1)

pub returns-in-None : goal.returns-in-None
returns-in-None c = no_code_there c.messages.result.now c.args.place c.messages.ensures c.in-None.ensures.lookup.3
