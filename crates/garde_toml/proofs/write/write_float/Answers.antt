use Rattle.std.proofs.Common.{◌≡◌, true, false, refl, sym, ◌∙◌}
use Rattle.std.specs.Float.{float_is_finite}
use Rattle.toml.specs.Data.{float}
use Rattle.garde_form.specs.Bare.{bare}
use Rattle.garde_toml.specs.Spelled.{SpellsFloat}
use Rattle.garde_toml.proofs.Spelling.{a_bare_value, a_finite_float}
use Rattle.garde_toml.proofs.write.write_float.Goals as goal

pub returns-then-is_finite : goal.returns-then-is_finite
returns-then-is_finite c =
    let finite : float_is_finite c.args.number ≡ true = sym c.is_finite.ensures.value ∙ c.if-is_finite.true in
    let before = c.float.ensures.room.1.0 in
    a_finite_float _ c.args.out.now c.float.new.self c.args.number finite before c.float.ensures.plain

pub returns-else-is_finite : goal.returns-else-is_finite
returns-else-is_finite c =
    let finite : float_is_finite c.args.number ≡ false = sym c.is_finite.ensures.value ∙ c.if-is_finite.false in
    let text = c.name_of.result.now in
    let spelled : SpellsFloat c.args.number (bare text) = (text, rw finite c.name_of.ensures, rw finite refl) in
    a_bare_value _ _ _ (float c.args.number) text spelled c.write_bare.ensures.written
