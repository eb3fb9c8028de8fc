use Rattle.std.proofs.Common.{◌≡◌, ◌∙◌, Err, ap, rules, subst}
use Rattle.std.specs.Str.{IsUtf8}
use Rattle.garde_check.specs.Body.{content}
use Rattle.garde_check.specs.Request.{Spells, SpellsNothing}
use Rattle.garde_check.proofs.OneTree.{body_reported}
use Rattle.garde_check.proofs.output.body_output.Goals as goal

pub returns-in-Ok-body_of-clause-ok : goal.returns-in-Ok-body_of-clause-ok
returns-in-Ok-body_of-clause-ok c =
    let body = c.in-Ok-body_of.body in
    let told = (c.in-Ok.ensures {u = tt}).cases in
    let same : c.in-Ok.input.now ≡ c.args.bytes.items = told.0 ∙ c.as_slice.ensures.value in
    let spells = subst (λ t. Spells t (content body)) same (c.in-Ok-body_of.ensures {u = tt}).ok in
    (subst IsUtf8 c.as_slice.ensures.value told.1, body_reported c.args.most body _ _ _ spells (search rules))

pub returns-in-Err-Form-clause-err : goal.returns-in-Err-Form-clause-err
returns-in-Err-Form-clause-err c =
    let told = (c.in-Ok.ensures {u = tt}).cases in
    let same : c.in-Ok.input.now ≡ c.args.bytes.items = told.0 ∙ c.as_slice.ensures.value in (
      subst IsUtf8 c.as_slice.ensures.value told.1,
      subst SpellsNothing same ((c.in-Err-Form.ensures {u = tt}).form (ap Err c.in-Err-Form.field-0-is)),
    )
