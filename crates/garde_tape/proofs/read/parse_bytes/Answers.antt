use Rattle.std.proofs.Common.{◌≡◌, ◌∙◌, None, IsUtf8, subst}
use Rattle.json.specs.Json.{document}
use Rattle.garde_tape.specs.Refusals.{IsPlaceOfLone}
use Rattle.garde_tape.proofs.read.parse_bytes.Goals as goal

-- the text is the input without its mark
pub returns-in-Ok-clause-surrogate : goal.returns-in-Ok-clause-surrogate
returns-in-Ok-clause-surrogate c place e =
    let bytes = c.without_mark-bytes.ensures in
    let text = c.in-Ok.ensures.cases.0 ∙ bytes in
    let lone = c.parse.ensures.surrogate place e in
    (subst IsUtf8 bytes c.in-Ok.ensures.cases.1, subst (λ t. document t ≡ None) text lone.0, subst (λ t. IsPlaceOfLone t place) text lone.1)
