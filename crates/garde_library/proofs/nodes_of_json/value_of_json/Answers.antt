use Rattle.std.proofs.Common.{Ok, Err, inl, refl}
use Rattle.garde_library.specs.Checked.{status_of}
use Rattle.garde_library.specs.declared.status.Status.TheVariants.{Valid}
use Rattle.garde_library.proofs.Given.{not_given}
use Rattle.garde_library.proofs.nodes_of_json.value_of_json.Goals as goal

pub returns-in-Ok : goal.returns-in-Ok
returns-in-Ok g c = (Valid, (Ok tt, c.in-Ok.ensures.answer, refl), c.give.ensures)

pub returns-in-Err : goal.returns-in-Err
returns-in-Err g c =
    let error = c.in-Err.error in
    (status_of (Err error), (Err error, c.in-Err.ensures.answer, refl), inl (c.status_of.ensures.told, not_given error _ _ _ _ _ _ _ c.give_nothing.ensures))
