use Rattle.std.proofs.Common.{◌≢◌, Err, Result, subst}
use Rattle.garde.specs.declared.validate_error.ValidateError.{ValidateError}
use Rattle.garde.specs.declared.validate_error.ValidateError.TheVariants.{Memory}
use Rattle.garde_form.specs.WebForm.{fields_in}
use Rattle.use_signup.specs.Answered.{Tells, voice}
use Rattle.use_signup.proofs.service.judge.Goals as goal

-- an answer was made, so memory did not run out where the fields were read
pub returns : goal.returns
returns c =
    let form = c.args.texts.now.form in
    let tag = c.args.tag.now in
    let text = (voice c.args.catalog.now tag c.args.texts.now).text in
    let told : Tells form text tag (fields_in c.args.body.now) c.read_fields-read.result c.put_result.new.response =
    rw (c.as_slice-2.ensures.value, c.in_ok-fields.ensures) at c.in_ok-put_result.ensures in
    let memory : c.read_fields-read.result ≢ Err Memory =
    λ e. subst (λ (read : Result (Unit {0}) ValidateError). Tells form text tag (fields_in c.args.body.now) read c.put_result.new.response) e told in (
      c.read_fields-read.result,
      rw (c.as_slice.ensures.value, c.in_ok-fields.ensures) at c.read_fields-read.ensures memory,
      told,
    )
